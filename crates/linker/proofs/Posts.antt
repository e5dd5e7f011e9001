-- What `link` promises at each of its returns.
use Rattle.std.proofs.Common.{◌≡◌, ℕ, ◌+◌, ◌<◌, ◌≤◌, true, false, ◌↔◌, List, length, take, drop, Ok, Err, Result, IsErrAnd, sym, refl, ap, ◌∙◌, arith}
use Rattle.std.proofs.lemmas.List.{take_at, drop_at}
use Rattle.rows.specs.Objects.{Object}
use Rattle.rows.specs.ObjectRows.{ObjectRows}
use Rattle.rows.proofs.ObjectLists.{one_list}
use Rattle.linker.specs.Linking.{lay, link_laid, twice}
use Rattle.linker.specs.Tables.{laid_in, objects_of, unlaid, all_code}
use Rattle.linker.specs.Laying.{Laying}
use Rattle.linker.specs.Fitting.{Joined, IsNotJoined}
use Rattle.linker.specs.Says.{LinkedPost}
use Rattle.linker.specs.declared.laying.Extent.{Extent}
use Rattle.linker.specs.declared.laying.Laid.{Laid as LaidView}
use Rattle.linker.specs.declared.Image.{Image}
use Rattle.linker.specs.declared.NotLinked.{NotLinked}
use Rattle.linker.specs.declared.NotLinked.TheVariants.{NoObjects, Twice, Missing, NoSpace}
use Rattle.linker.proofs.LaidObjects.{unlaid-lay, unlaid_in, code_in_row}

-- with space for the row, the answer is another than that there is none
has_space : (s o : List ℕ) (r : Result Image NotLinked) → 4 + length s ≤ length o → (r ≡ Err NoSpace → ⊥) → (length o < 4 + length s) ↔ (r ≡ Err NoSpace)
has_space s o r enough other = (λ few. absurd (omega arith), λ e. absurd (other e))

pub post_no_space : (s o : List ℕ) → length o < 4 + length s → LinkedPost s o o (Err NoSpace)
post_no_space s o few = record { says = refl; space = (λ _. refl, λ _. few); one_list = one_list }

-- a refusal that is that there are no objects
pub post_no_objects : (s o : List ℕ) (r : Result Image NotLinked) → 4 + length s ≤ length o → IsErrAnd r (λ e. e ≡ NoObjects) → ((os : List Object) → ObjectRows s os → ⊥) → LinkedPost s o o r
post_no_objects s o (Ok i) enough is none = absurd is
post_no_objects s o (Err e) enough is none = rw is (record { says = record { none = none; kept = refl }; space = has_space s o (Err NoObjects) enough (λ e. let z : ◌≡◌ {A = ℕ} 0 1 = cc in omega arith); one_list = one_list })

-- the row's objects are laid
module _ (s o : List ℕ) (enough : 4 + length s ≤ length o) (table : List LaidView) (l : Extent) (laying : Laying s table l) where
  abbrev os : List Object
  os = laying.objects

  objects_are : objects_of (take l.objects table) ≡ os
  objects_are = sym (unlaid_in (take l.objects table)) ∙ (ap unlaid laying.laid ∙ unlaid-lay os 4 0)

  code_small : all_code os ≤ length s
  code_small = rw laying.rows.row at (code_in_row os)

  -- a refusal that is that two have one name
  pub post_twice : (e' : NotLinked) (r : Result Image NotLinked) → IsErrAnd r (λ e. e ≡ e') → e' ≡ Twice → twice (objects_of (take l.objects table)) ≡ true → LinkedPost s o o r
  post_twice e' (Ok i) is so two = absurd is
  post_twice e' (Err e) is so two = rw (is, so) (record { says = record { objects = os; rows = laying.rows; names = sym (ap twice objects_are) ∙ two; kept = refl }; space = has_space s o (Err Twice) enough (λ q. let z : ◌≡◌ {A = ℕ} 0 1 = cc in omega arith); one_list = one_list })

  -- t are the objects of a directory, no two of which have one name
  module _ (t : List LaidView) (is : t ≡ (take l.objects table)) (apart : twice (objects_of t) ≡ false) where
    laid : laid_in t ≡ lay os 4 0
    laid = ap laid_in is ∙ laying.laid

    objects : objects_of t ≡ os
    objects = ap objects_of is ∙ objects_are

    no_two : twice os ≡ false
    no_two = sym (ap twice objects) ∙ apart

    pub image_fits : 4 + all_code (objects_of t) ≤ length o
    image_fits = rw objects (omega (arith, code_small))

    -- a refusal that is that something is missing
    pub post_missing : (o' : List ℕ) (e' : NotLinked) (r : Result Image NotLinked) → IsErrAnd r (λ e. e ≡ e') → e' ≡ Missing → IsNotJoined (laid_in t) o o' → LinkedPost s o o' r
    post_missing o' e' (Ok i) is so not = absurd is
    post_missing o' e' (Err e) is so not = rw (is, so) (record { says = record { objects = os; rows = laying.rows; names = no_two; missing = sym (ap link_laid laid) ∙ not.missing; kept = not.kept }; space = has_space s o (Err Missing) enough (λ q. let z : ◌≡◌ {A = ℕ} 0 1 = cc in omega arith); one_list = one_list })

    pub post_image : (o' : List ℕ) → Joined (laid_in t) o o' → LinkedPost s o o' (Ok (record { size = l.image; words = l.words }))
    post_image o' joined = record {
      says = record {
        objects = os;
        image = joined.image;
        rows = laying.rows;
        names = no_two;
        links = sym (ap link_laid laid) ∙ joined.links;
        size = long;
        words = laying.words;
        holds = ap (take l.image) joined.written ∙ take_at joined.image (drop (length joined.image) o) l.image (sym long);
        rest = ap (drop l.image) joined.written ∙ (drop_at joined.image (drop (length joined.image) o) l.image (sym long) ∙ ap (λ n. drop n o) (sym long));
      };
      space = has_space s o (Ok (record { size = l.image; words = l.words })) enough (λ q. let z : ◌≡◌ {A = ℕ} 0 1 = cc in omega arith);
      one_list = one_list;
    }
      where
        long : l.image ≡ length joined.image
        long = omega (arith, laying.image, joined.size, ap all_code (unlaid_in t ∙ objects))
