-- A unit whose row is laid out: its bodies are right exactly if the row says it, and then all is ready for its object's row.
use Rattle.std.proofs.Common.{◌≡◌, ℕ, ◌+◌, ◌*◌, ◌≤◌, true, T, List, [], ◌∷◌, length, sym, refl, ap, ◌∙◌, subst, arith, length-append}
use Rattle.std.specs.List.{AllByRecursion}
use Rattle.std.proofs.lemmas.List.{take_all, length-map}
use Rattle.rows.specs.Units.{Proc, SourceUnit}
use Rattle.rows.specs.Formed.{formed_procs}
use Rattle.rows.specs.UnitRows.{UnitRow}
use Rattle.rows.specs.ObjectViews.{want_in}
use Rattle.rows.specs.UnitParts.{Opened, Procedures, FewArgs, BodyRight, AritySays}
use Rattle.rows.specs.ObjectRows.{row_fits}
use Rattle.rows.specs.declared.units.UnitView.{UnitView}
use Rattle.rows.proofs.UnitReading.{one_list, unit_of, cut_view, bodies_wrong, unit_row}
use Rattle.compiler.specs.Instructions.{code_words, code_fits}
use Rattle.compiler.specs.Code.{code_procs}
use Rattle.compiler.specs.WritingExpressions.{CalleesOf}
use Rattle.compiler.specs.Laying.{outline_in, callees_in}
use Rattle.compiler.specs.WritingProcedures.{RightProc, WroteCode}
use Rattle.compiler.specs.ObjectWriting.{object_size, Ready, WritesObject}
use Rattle.compiler.specs.Measuring.{Placed}
use Rattle.compiler.specs.UnitWriting.{LaidOut, UnitWritten}
use Rattle.compiler.specs.declared.layout.Layout.{Layout}
use Rattle.compiler.proofs.Weights.{short_row}
use Rattle.compiler.proofs.ObjectParts.{ready_size}

-- few arguments and right bodies together, and apart
all_right : (o : SourceUnit) (qs : List Proc) → AllByRecursion FewArgs qs → AllByRecursion (BodyRight o) qs → AllByRecursion (RightProc o) qs
all_right o [] few right = tt
all_right o (q ∷ qs) few right = (record { few = few.0; body = right.0 }, all_right o qs few.1 right.1)

all_bodies : (o : SourceUnit) (qs : List Proc) → AllByRecursion (RightProc o) qs → AllByRecursion (BodyRight o) qs
all_bodies o [] right = tt
all_bodies o (q ∷ qs) right = (right.0.body, all_bodies o qs right.1)

pub opened_inside : (s : List ℕ) (v : UnitView) → Opened s v → length v.procs.now ≤ length s
opened_inside s v h = omega (arith, simp length-append at (ap (λ (xs : List ℕ). length xs) h.cut.parts))

pub laid_out : (s : List ℕ) (l : Layout) (n : ℕ) → Opened s l.view → n ≡ l.view.count → Placed n l.view.procs.now l.arities.now l.starts.now → LaidOut s l
laid_out s l n opened all placed = record { opened = opened; placed = subst (λ m. Placed m l.view.procs.now l.arities.now l.starts.now) all placed }

module _ (s : List ℕ) (l : Layout) (laid : LaidOut s l) where
  abbrev v : UnitView
  v = l.view

  abbrev arities : List ℕ
  arities = l.arities.now

  abbrev starts : List ℕ
  starts = l.starts.now

  abbrev o : SourceUnit
  o = outline_in l

  pub procs_inside : length v.procs.now ≤ length s
  procs_inside = opened_inside s v laid.opened

  abbrev counted : AritySays v.count v.procs.now arities true
  counted = (laid.placed.procs, laid.placed.says, laid.placed.arity)

  -- the bodies are not right
  pub no_unit : ((qs : List Proc) → Procedures (RightProc o) v.count v.procs.now qs → ⊥) → (u : SourceUnit) → UnitRow s u → ⊥
  no_unit none = bodies_wrong s v laid.opened.cut v.count v.count arities refl refl counted (λ h. wrong h.0 h.1)
    where
      wrong : (qs : List Proc) → Procedures (BodyRight o) v.count v.procs.now qs → ⊥
      wrong qs right = none qs (record { count = right.count; says = right.says; each = all_right o qs (subst (AllByRecursion FewArgs) (one_list laid.placed.procs qs laid.placed.says right) laid.placed.says.each) right.each })

  -- they are, and their code is written
  module _ (c f : List ℕ) (w : WroteCode o (callees_in l) v.count v.procs.now c f) where
    abbrev pub u : SourceUnit
    u = unit_of v laid.placed.procs

    same_procs : w.procs ≡ laid.placed.procs
    same_procs = one_list w.procs laid.placed.procs w.right laid.placed.says

    pub unit : UnitRow s u
    unit = unit_row s v laid.opened.cut v.count v.count arities refl refl counted w.procs
        (record { count = w.right.count; says = w.right.says; each = all_bodies o w.procs w.right.each }) laid.opened.wants laid.opened.offers

    callees : CalleesOf (callees_in l) u
    callees = record { wants = sym (length-map v.wants.now want_in); starts = laid.placed.start }

    well_formed : T (formed_procs u w.procs)
    well_formed = subst (λ ps. T (formed_procs u ps)) (sym same_procs) unit.bodies

    pub ready : Ready u v arities starts c f
    ready = record {
      view = cut_view s v laid.opened.cut u unit.row;
      arity = take_all (length laid.placed.procs) arities (omega (arith, simp length-map at (ap (λ (xs : List ℕ). length xs) laid.placed.arity))) ∙ sym laid.placed.arity;
      start = laid.placed.start;
      offers = unit.offers;
      code_is = w.code u callees well_formed ∙ ap (λ ps. code_words (code_procs u 0 ps)) same_procs;
      fits_are = w.fits u callees well_formed ∙ ap (λ ps. row_fits (code_fits 0 (code_procs u 0 ps))) same_procs;
    }

    pub object_short : object_size v c f ≤ 10 * length s + 6
    object_short = omega (arith, ready_size u v arities starts c f ready, short_row s u unit)

    pub unit_written : (old new : List ℕ) (n : ℕ) → WritesObject l c f old new n → UnitWritten s old new n
    unit_written old new n writes = record { unit = u; row = unit; written = writes u ready }
