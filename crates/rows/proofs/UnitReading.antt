-- A unit is read off its row: what the parts of the check say of it together.
use Rattle.std.proofs.Common.{◌≡◌, ℕ, ◌≤◌, Bool, true, false, ◌&&◌, T, leb, List, [], ◌∷◌, ◌++◌, map, length, take, drop, sym, refl, ap, ◌∙◌, subst, ap₂, arith}
use Rattle.std.specs.Bool.{then_some}
use Rattle.std.specs.List.{AllByRecursion}
use Rattle.std.proofs.lemmas.Slice.{drop-append-drop}
use Rattle.std.proofs.lemmas.List.{append-nil, length-append, length-take-le, take_at, drop_at}
use Rattle.std.proofs.lemmas.Bool.{le-leb, leb-true, both_ways}
use Rattle.std.proofs.ByRecursion.{All-weaker}
use Rattle.rows.specs.Units.{Proc, SourceUnit}
use Rattle.rows.specs.Formed.{formed, formed_procs, depth}
use Rattle.rows.specs.UnitRows.{row_wants, row_procs, row_unit, small_wants, small_procs, all_below, UnitRow}
use Rattle.rows.specs.ObjectViews.{wants_in}
use Rattle.rows.specs.Bodies.{outlined}
use Rattle.rows.specs.UnitViews.{ViewOf}
use Rattle.rows.specs.UnitReading.{Shown}
use Rattle.rows.specs.UnitParts.{Cut, Procedures, FewArgs, BodyRight, AritySays, BodiesRight, OpenSays}
use Rattle.rows.specs.declared.units.UnitView.{UnitView}
use Rattle.rows.proofs.Decided.{T-true, true_T, T-parts, T-both}
use Rattle.rows.proofs.OneUnit.{one_wants, one_procs}
use Rattle.rows.proofs.Outlines.{outline_right, right_outline}

T-leb : (a b : ℕ) → T (leb a b) → a ≤ b
T-leb a b t = leb-true a b (T-true (leb a b) t)

leb_T : (a b : ℕ) → a ≤ b → T (leb a b)
leb_T a b h = true_T (leb a b) (le-leb a b h)

-- the limits of procedures, one after the other
pub few_of : (ps : List Proc) → T (small_procs ps) → AllByRecursion FewArgs ps
few_of [] t = tt
few_of (p ∷ ps) t =
    let h = T-parts (leb p.args 8) (leb (depth p.body) 256 && small_procs ps) t in
    (T-leb p.args 8 h.0, few_of ps (T-parts (leb (depth p.body) 256) (small_procs ps) h.1).1)

pub right_of : (u : SourceUnit) (ps : List Proc) → T (small_procs ps) → T (formed_procs u ps) → AllByRecursion (BodyRight u) ps
right_of u [] t f = tt
right_of u (p ∷ ps) t f =
    let h = T-parts (leb p.args 8) (leb (depth p.body) 256 && small_procs ps) t in
    let d = T-parts (leb (depth p.body) 256) (small_procs ps) h.1 in
    let g = T-parts (formed u p.args p.body) (formed_procs u ps) f in
    (record { deep = T-leb (depth p.body) 256 d.0; formed = g.0 }, right_of u ps d.1 g.1)

small_of : (u : SourceUnit) (ps : List Proc) → AllByRecursion FewArgs ps → AllByRecursion (BodyRight u) ps → T (small_procs ps)
small_of u [] few right = tt
small_of u (p ∷ ps) few right = T-both (leb p.args 8) (leb (depth p.body) 256 && small_procs ps) (leb_T p.args 8 few.0) (T-both (leb (depth p.body) 256) (small_procs ps) (leb_T (depth p.body) 256 right.0.deep) (small_of u ps few.1 right.1))

formed_of : (u : SourceUnit) (ps : List Proc) → AllByRecursion (BodyRight u) ps → T (formed_procs u ps)
formed_of u [] right = tt
formed_of u (p ∷ ps) right = T-both (formed u p.args p.body) (formed_procs u ps) right.0.formed (formed_of u ps right.1)

-- procedures that one row says are the same
pub one_list : {A B : Proc → Type 0} {n : ℕ} {row : List ℕ} (ps qs : List Proc) → Procedures A n row ps → Procedures B n row qs → ps ≡ qs
one_list ps qs h k = (one_procs ps qs [] [] (h.count ∙ sym k.count) (append-nil (row_procs ps) ∙ (h.says ∙ (sym k.says ∙ sym (append-nil (row_procs qs)))))).0

-- the unit that a cut row says, whose procedures are ps
abbrev pub unit_of : UnitView → List Proc → SourceUnit
unit_of v ps = record { name = v.name; words = v.words; wants = wants_in v.wants.now; procs = ps; offers = v.offers.now }

-- two rows that end alike in as many words
same_ends : (xs ys zs ws : List ℕ) → length zs ≡ length ws → xs ++ zs ≡ ys ++ ws → (xs ≡ ys) × (zs ≡ ws)
same_ends xs ys zs ws l e =
    let long : length xs ≡ length ys = omega (arith, simp length-append at (ap length e)) in
    (sym (take_at xs zs _ refl) ∙ (ap (take (length xs)) e ∙ take_at ys ws _ (sym long)), sym (drop_at xs zs _ refl) ∙ (ap (drop (length xs)) e ∙ drop_at ys ws _ (sym long)))

module _ (row : List ℕ) (v : UnitView) (cut : Cut row v) where
  -- a view shows every unit that the row says
  pub cut_view : (u : SourceUnit) → row_unit u ≡ row → ViewOf v u
  cut_view u e =
      let q = e ∙ cut.parts in
      let name : u.name ≡ v.name = cc in
      let words : u.words ≡ v.words = cc in
      let wants : length u.wants ≡ length (wants_in v.wants.now) = cc in
      let count : length u.procs ≡ v.count = cc in
      let offers : length u.offers ≡ length v.offers.now = cc in
      let rest : row_wants u.wants ++ (row_procs u.procs ++ u.offers) ≡ row_wants (wants_in v.wants.now) ++ (v.procs.now ++ v.offers.now) = cc in
      let w = one_wants u.wants (wants_in v.wants.now) (row_procs u.procs ++ u.offers) (v.procs.now ++ v.offers.now) wants rest in
      let p = same_ends (row_procs u.procs) v.procs.now u.offers v.offers.now offers w.1 in
      record {
        name = sym name;
        words = sym words;
        wants = sym w.0;
        want_words = sym (ap row_wants w.0 ∙ cut.whole);
        count = sym count;
        procs = sym p.0;
        offers = sym p.1;
      }

  -- what stands in every unit that the row says
  cut_procs : (Ok : Proc → Type 0) (u : SourceUnit) → ViewOf v u → AllByRecursion Ok u.procs → Procedures Ok v.count v.procs.now u.procs
  cut_procs Ok u h all = record { count = sym h.count; says = sym h.procs; each = all }

  -- where a part of the check fails, the row says no unit
  pub wants_wrong : small_wants (wants_in v.wants.now) ≡ false → (u : SourceUnit) → UnitRow row u → ⊥
  wants_wrong e u h = both_ways (small_wants (wants_in v.wants.now)) e (ap small_wants (cut_view u h.row).wants ∙ T-true (small_wants u.wants) h.want_args)

  pub offers_wrong : all_below v.count v.offers.now ≡ false → (u : SourceUnit) → UnitRow row u → ⊥
  offers_wrong e u h =
      let w = cut_view u h.row in
      both_ways (all_below v.count v.offers.now) e (ap₂ all_below w.count w.offers ∙ T-true (all_below (length u.procs) u.offers) h.offers)

  -- the test of the offers, of a row whose wants are small
  pub opened_where : (b : Bool) → true ≡ small_wants (wants_in v.wants.now) → b ≡ all_below v.count v.offers.now → OpenSays row (then_some b v)
  opened_where true small e = record { cut = cut; wants = sym small; offers = sym e }
  opened_where false small e = offers_wrong (sym e)

  pub arities_wrong : (n : ℕ) (arities : List ℕ) → n ≡ v.count → AritySays n v.procs.now arities false → (u : SourceUnit) → UnitRow row u → ⊥
  arities_wrong n arities all f u h = f u.procs (rw all (cut_procs FewArgs u (cut_view u h.row) (few_of u.procs h.proc_sizes)))

  -- the procedures of which the numbers of arguments were read
  module _ (n m : ℕ) (arities : List ℕ) (all : n ≡ v.count) (each : m ≡ v.count) (says : AritySays n v.procs.now arities true) where
    abbrev outline : SourceUnit
    outline = outlined v.words v.wants.now arities

    few : Procedures FewArgs v.count v.procs.now says.0
    few = rw all at says.1

    pub bodies_wrong : (BodiesRight outline m v.procs.now → ⊥) → (u : SourceUnit) → UnitRow row u → ⊥
    bodies_wrong f u h = f (u.procs, rw each (cut_procs (BodyRight outline) u w (All-weaker (BodyRight u) (BodyRight outline) to_outline u.procs (right_of u u.procs h.proc_sizes h.bodies))))
      where
        w : ViewOf v u
        w = cut_view u h.row

        same : says.0 ≡ u.procs
        same = one_list says.0 u.procs few (cut_procs FewArgs u w (few_of u.procs h.proc_sizes))

        to_outline : (p : Proc) → BodyRight u p → BodyRight outline p
        to_outline p r = rw w.words (outline_right u v.wants.now arities w.wants (ap (map (λ q. q.args)) (sym same) ∙ says.2) p.args 256 p.body r)

    module _ (qs : List Proc) (right : Procedures (BodyRight outline) m v.procs.now qs) (small : small_wants (wants_in v.wants.now) ≡ true) (below : all_below v.count v.offers.now ≡ true) where
      bodies : AllByRecursion (BodyRight (unit_of v says.0)) says.0
      bodies = All-weaker (BodyRight outline) (BodyRight (unit_of v says.0)) (λ p r. right_outline (unit_of v says.0) v.wants.now arities refl says.2 p.args 256 p.body r) says.0 (subst (AllByRecursion (BodyRight outline)) (one_list qs says.0 (rw each at right) few) right.each)

      pub unit_row : UnitRow row (unit_of v says.0)
      unit_row = record {
        row = cc (cut.parts, few.says, few.count);
        short = cut.short;
        words = cut.words;
        wants = cut.wants;
        procs = omega (arith, few.count, cut.procs);
        want_args = true_T _ small;
        proc_sizes = small_of (unit_of v says.0) says.0 few.each bodies;
        bodies = formed_of (unit_of v says.0) says.0 bodies;
        offers = true_T _ (ap (λ k. all_below k v.offers.now) few.count ∙ below);
      }

      pub unit_shown : (old new : List ℕ) → 256 ≤ length old → new ≡ arities ++ drop v.count old → (u : SourceUnit) × Shown row old new v u
      unit_shown old new enough is = (
        unit_of v says.0,
        record {
          enough = enough;
          unit = unit_row;
          view = cut_view (unit_of v says.0) unit_row.row;
          arities = is ∙ ap₂ (λ s k. s ++ drop k old) (sym says.2) (sym few.count);
        },
      )

-- the front of the lent words, as the code lends it on, and what is behind it
module _ (old : List ℕ) (k : ℕ) (few : k ≤ 256) (enough : 256 ≤ length old) where
  pub lent : length (take k old) ≡ k
  lent = length-take-le k old (omega arith)

  pub kept_behind : (new : List ℕ) → length new ≡ k → drop 256 (new ++ drop k old) ≡ drop 256 old
  kept_behind new l = drop-append-drop k old new 256 few l
