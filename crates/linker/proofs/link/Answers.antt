use Rattle.linker.proofs.Posts.{post_no_space, post_no_objects, post_twice, image_fits, post_missing, post_image}
use Rattle.linker.proofs.link.Goals as goal

pub returns-then-image-objects : goal.returns-then-image-objects
returns-then-image-objects c = post_no_space c.args.objects.now c.args.image.now c.if-image-objects.true

pub returns-in_err-extent : goal.returns-in_err-extent
returns-in_err-extent c = post_no_objects c.args.objects.now c.args.image.now c.from_residual.result c.if-image-objects.false c.from_residual.ensures.1 c.in_err-extent.ensures

pub returns-in_err-directory : goal.returns-in_err-directory
returns-in_err-directory c = post_twice c.args.objects.now c.args.image.now c.if-image-objects.false c.lay.new.table c.in_ok-extent.extent c.in_ok-extent.ensures _ c.from_residual-in_err-directory.result c.from_residual-in_err-directory.ensures.1 c.in_err-directory.ensures.0 c.in_err-directory.ensures.1

pub join-requires : goal.join-requires
join-requires c = image_fits c.args.objects.now c.args.image.now c.if-image-objects.false c.lay.new.table c.in_ok-extent.extent c.in_ok-extent.ensures c.in_ok-directory.directory.laid.now c.in_ok-directory.ensures c.in_ok-directory.directory.apart

pub returns-in_err-join : goal.returns-in_err-join
returns-in_err-join c = post_missing c.args.objects.now c.args.image.now c.if-image-objects.false c.lay.new.table c.in_ok-extent.extent c.in_ok-extent.ensures c.in_ok-directory.directory.laid.now c.in_ok-directory.ensures c.in_ok-directory.directory.apart c.join.new.image _ c.from_residual-in_err-join.result c.from_residual-in_err-join.ensures.1 c.in_err-join.ensures.0 c.in_err-join.ensures.1

pub returns : goal.returns
returns c = post_image c.args.objects.now c.args.image.now c.if-image-objects.false c.lay.new.table c.in_ok-extent.extent c.in_ok-extent.ensures c.in_ok-directory.directory.laid.now c.in_ok-directory.ensures c.in_ok-directory.directory.apart c.join.new.image c.in_ok-join.ensures
