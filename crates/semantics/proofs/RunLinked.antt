-- What `run_linked` promises at its returns, from what the linker and the machine promise.
use Rattle.std.proofs.Common.{◌≡◌, ℕ, suc, ◌+◌, ◌^◌, ◌<◌, ◌≤◌, ◌↔◌, List, length, take, Some, Ok, Err, Result, sym, refl, ap, ◌∙◌, arith, length-append}
use Rattle.std.proofs.lemmas.Bool.{false≢true}
use Rattle.std.proofs.iter.runs.Lists.{none-some, same_Some}
use Rattle.rows.specs.Units.{SourceUnit}
use Rattle.rows.specs.Objects.{Object}
use Rattle.rows.specs.ObjectRows.{ObjectRows}
use Rattle.rows.proofs.ObjectLists.{one_list}
use Rattle.machine.specs.Machine.{Machine, begin}
use Rattle.machine.specs.Instructions.{steps}
use Rattle.machine.specs.declared.Ran.{Ran}
use Rattle.machine.specs.declared.NotRun.{NotRun}
use Rattle.machine.specs.declared.NotRun.TheVariants.{OutFull, Small}
use Rattle.machine.specs.declared.ending.Status.{Status}
use Rattle.machine.specs.declared.ending.Status.TheVariants.{Running, Done, NoCalls, NoRoom, Wild}
use Rattle.machine.specs.Registers.{halted_as}
use Rattle.machine.specs.Says.{Stands, RanPost}
use Rattle.linker.specs.Linking.{link, all_words, twice}
use Rattle.linker.specs.Says.{LinkedPost}
use Rattle.linker.specs.declared.Image.{Image}
use Rattle.linker.specs.declared.NotLinked.{NotLinked}
use Rattle.linker.specs.declared.NotLinked.TheVariants.{NoObjects, Twice, Missing, NoSpace}
use Rattle.semantics.specs.declared.linked.RunError.{RunError}
use Rattle.semantics.specs.declared.linked.RunError.TheVariants.{Link}
use Rattle.semantics.specs.Runs.{source}
use Rattle.semantics.specs.Whole.{Behaviour, done, without_calls, without_room, FitTogether, behaviour, halted_behaviour, machine_behaviour}
use Rattle.semantics.specs.Theorems.{ObjectsOf}
use Rattle.semantics.specs.RunLinked.{Inputs, ran_answer, RanImage, Refused, RunSays, Ended, StandsAsUnits, RanAsUnits, AsUnits, Promised, EnoughSteps, RunLinkedPost}
use Rattle.semantics.proofs.Endings.{begins, halted_so, runs_no_more}
use Rattle.semantics.proofs.Sizes.{image_short}
use Rattle.semantics.proofs.Linkable.{links}
use Rattle.semantics.proofs.NotBad.{ends as programs_end}
use Rattle.semantics.proofs.Main.{linked_runs}
use Rattle.semantics.proofs.Promised.{demands}
use Rattle.semantics.proofs.Budgets.{budgets}
use Rattle.semantics.proofs.Company.{company}

-- the image runs so with these inputs
abbrev runs : Inputs → List ℕ → ℕ → ℕ → Machine
runs x image words n = steps n image (begin words x.room x.tape x.calls)

-- an image that ends as b says: what the machine answers after any number of steps
module _ (x : Inputs) (os : List Object) (image : List ℕ) (n : ℕ) (b : Behaviour) (ends : machine_behaviour (runs x image (all_words os) n) ≡ Some b) where
  -- the machine after the run's steps
  abbrev m : Machine
  m = runs x image (all_words os) x.steps

  ended : (how : List ℕ → Behaviour) (h : ℕ) → ((ws : List ℕ) → halted_behaviour (suc h) ws ≡ Some (how ws)) → (o : List ℕ) (k : ℕ) → Stands m (suc h) x.out o k → Ended how b x.out o k
  ended how h is o k stands = (m.outs, same_Some b (how m.outs) (sym so ∙ ap (λ g. halted_behaviour g m.outs) stands.halts ∙ is m.outs), record { counts = stands.counts; holds = stands.holds; rest = stands.rest })
    where
      so : machine_behaviour m ≡ Some b
      so = halted_so image (runs x image (all_words os) 0) n b ends x.steps h stands.halts

  stands_as_units : (o : List ℕ) (status : Status) (k : ℕ) → Stands m (halted_as status) x.out o k → StandsAsUnits x b o status k
  stands_as_units o Done k stands = ended done 0 (λ ws. refl) o k stands
  stands_as_units o NoCalls k stands = ended without_calls 1 (λ ws. refl) o k stands
  stands_as_units o NoRoom k stands = ended without_room 2 (λ ws. refl) o k stands
  stands_as_units o Wild k stands = absurd (none-some b (sym (ap (λ g. halted_behaviour g m.outs) stands.halts) ∙ halted_so image (runs x image (all_words os) 0) n b ends x.steps 3 stands.halts))
  stands_as_units o Running k stands = (m.outs, begins image (runs x image (all_words os) 0) n b ends x.steps, record { counts = stands.counts; holds = stands.holds; rest = stands.rest })

  pub ran_as_units : (o : List ℕ) (r : Result Ran NotRun) → RanPost image (all_words os) x.room x.tape x.calls x.steps x.out o x.work r → RanAsUnits x os b o r
  ran_as_units o (Ok r) post = stands_as_units o r.status r.put post.says
  ran_as_units o (Err OutFull) post = let rest = begins image (runs x image (all_words os) 0) n b ends x.steps in omega (arith, post.says, ap length rest.1, length-append m.outs rest.0)
  ran_as_units o (Err Small) post = post.small.1 refl

-- objects of units that fit together
module _ (us : List SourceUnit) (os : List Object) (objects : ObjectsOf us os) (fit : FitTogether us) where
  -- the machine runs their image to an end, which is the units'
  runs_to_end : (x : Inputs) (image : List ℕ) → ObjectRows x.objects os → link os ≡ Some image → x.room < 2 ^ 32 → all_words os + x.room ≤ 2 ^ 32 →
      (b : Behaviour) → behaviour (source us x.room x.tape x.calls) ≡ Some b → (n : ℕ) × (machine_behaviour (runs x image (all_words os) n) ≡ Some b)
  runs_to_end x image rows linked small fits b is =
      let k = linked_runs us os image objects fit linked (image_short x.objects os image rows linked) x.room x.calls x.tape small fits in
      (k.0, k.3 ∙ sym k.2 ∙ is)

  -- so where they were linked and run, the machine's answer is what the units do
  run_as_units : (x : Inputs) (i o : List ℕ) (r : Result Ran NotRun) → x.room < 2 ^ 32 → ObjectRows x.objects os → RanImage x i o r →
      (b : Behaviour) → behaviour (source us x.room x.tape x.calls) ≡ Some b → all_words os + x.room ≤ 2 ^ 32 → RanAsUnits x os b o r
  run_as_units x i o r small rows ran b is fits =
      let same = one_list x.objects ran.links.objects os ran.links.rows rows in
      let k = runs_to_end x ran.links.image rows (ap link (sym same) ∙ ran.links.links) small fits b is in
      ran_as_units x os ran.links.image k.0 b k.1 o r (rw (ran.links.holds, ran.links.words, same) at ran.ran)

  -- so is the whole answer
  pub answer_as_units : (x : Inputs) (i o : List ℕ) (r : Result Ran NotRun) → x.room < 2 ^ 32 → ObjectRows x.objects os → RanImage x i o r →
      (b : Behaviour) → behaviour (source us x.room x.tape x.calls) ≡ Some b → AsUnits x os b o (ran_answer r)
  answer_as_units x i o (Ok r) small rows ran b is = run_as_units x i o (Ok r) small rows ran b is
  answer_as_units x i o (Err e) small rows ran b is = run_as_units x i o (Err e) small rows ran b is

  -- and they are not refused, but for want of space
  not_refused : (x : Inputs) (i o : List ℕ) (e : NotLinked) → ObjectRows x.objects os → Refused x i o e → (e ≡ NoSpace → length x.image < 4 + length x.objects) →
      (b : Behaviour) → AsUnits x os b o (Err (Link e))
  not_refused x i o NoObjects rows refused space b = refused.links.none os rows
  not_refused x i o Twice rows refused space b =
      let same = one_list x.objects refused.links.objects os refused.links.rows rows in
      false≢true (sym (links us os objects fit).2 ∙ ap twice (sym same) ∙ refused.links.names)
  not_refused x i o Missing rows refused space b =
      let same = one_list x.objects refused.links.objects os refused.links.rows rows in
      none-some _ (sym refused.links.missing ∙ ap link same ∙ (links us os objects fit).1)
  not_refused x i o NoSpace rows refused space b = space refl

pub enough_steps : EnoughSteps
enough_steps s us os rows objects fit room calls tape small fits =
    let l = links us os objects fit in
    let k = linked_runs us os l.0 objects fit l.1 (image_short s os l.0 rows l.1) room calls tape small fits in (
      k.0,
      λ steps image out work i o w le ran. runs_no_more l.0 (begin (all_words os) room tape calls) k.0 k.1 k.3 steps le
          (let same = one_list s ran.links.objects os ran.links.rows rows in
          rw (ran.links.holds ∙ same_Some _ _ (sym ran.links.links ∙ ap link same ∙ l.1), ran.links.words, same) at ran.ran.says.halts),
    )

post : (x : Inputs) (i o : List ℕ) (r : Result Ran RunError) → RunSays x i o r → ((length x.image < 4 + length x.objects) ↔ (r ≡ Err (Link NoSpace))) → Promised x o r → RunLinkedPost x i o r
post x i o r says space promise = record { says = says; space = space; promise = promise; enough_steps = enough_steps; demands = demands; ends = programs_end; budgets = budgets; company = company }

ran_says : (x : Inputs) (i o : List ℕ) (r : Result Ran NotRun) → RanImage x i o r → RunSays x i o (ran_answer r)
ran_says x i o (Ok r) ran = ran
ran_says x i o (Err e) ran = ran

-- what was run had space
not_short : (r : Result Ran NotRun) → ran_answer r ≡ Err (Link NoSpace) → ⊥
not_short (Ok r) is = cc
not_short (Err e) is = cc

pub post_run : (x : Inputs) (i o : List ℕ) (size words : ℕ) (r : Result Ran NotRun) → x.room < 2 ^ 32 → LinkedPost x.objects x.image i (Ok (record { size = size; words = words })) →
    RanPost (take size i) words x.room x.tape x.calls x.steps x.out o x.work r → RunLinkedPost x i o (ran_answer r)
post_run x i o size words r small linked ran = post x i o (ran_answer r) (ran_says x i o r says)
    (λ few. cc (linked.space.0 few), λ e. absurd (not_short r e))
    (λ us os rows objects fit. let b = programs_end us x.room x.calls x.tape fit in (b.0, b.1, answer_as_units us os objects fit x i o r small rows says b.0 b.1))
  where
    says : RanImage x i o r
    says = record { size = size; words = words; links = linked.says; ran = ran }

pub post_refusal : (x : Inputs) (i : List ℕ) (e : NotLinked) → LinkedPost x.objects x.image i (Err e) → RunLinkedPost x i x.out (Err (Link e))
post_refusal x i e linked = post x i x.out (Err (Link e)) says
    (λ few. ap (λ k. Err (Link k)) (same_err (linked.space.0 few)), λ is. linked.space.1 (ap Err (same_error is)))
    (λ us os rows objects fit. let b = programs_end us x.room x.calls x.tape fit in (b.0, b.1, not_refused us os objects fit x i x.out e rows says (λ is. linked.space.1 (ap Err is)) b.0))
  where
    says : Refused x i x.out e
    says = record { links = linked.says; kept = refl }

    same_err : ◌≡◌ {A = Result Image NotLinked} (Err e) (Err NoSpace) → e ≡ NoSpace
    same_err is = cc

    same_error : ◌≡◌ {A = Result Ran RunError} (Err (Link e)) (Err (Link NoSpace)) → e ≡ NoSpace
    same_error is = cc
