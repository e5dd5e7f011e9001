-- The object of a unit within the limits stands in the relation to it.
use Rattle.std.proofs.Common.{ℕ, suc, ◌+◌, ◌*◌, ◌<◌, ◌≤◌, true, ◌&&◌, T, ltb, leb, List, [], ◌∷◌, length, sym, refl, subst₂, arith, le→leb, lt→ltb}
use Rattle.std.proofs.lemmas.List.{append-nil}
use Rattle.rows.specs.Units.{SourceUnit}
use Rattle.rows.specs.Objects.{Fit}
use Rattle.rows.specs.UnitRows.{row_procs, UnitRow}
use Rattle.rows.specs.ObjectRows.{row_object, offers_inside, fits_inside, sound, ObjectRows}
use Rattle.semantics.specs.Relation.{run_unit, Simulates, SimulatesUnit, ObjectOf}
use Rattle.compiler.specs.Instructions.{Operand, plain, in_code, in_words, of_want, Instruction, instr, code_words, fit_operand, code_fits}
use Rattle.compiler.specs.Code.{code_unit, offers_of, object}
use Rattle.compiler.specs.Correct.{Compiles}
use Rattle.rows.proofs.Decided.{T-both}
use Rattle.compiler.proofs.Units.{own_do}
use Rattle.compiler.proofs.Offers.{offers_all, offers_found, offers_nothing_else, offers_begin}
use Rattle.compiler.proofs.Lengths.{size_procs, proc_at_most, size_procs_row, row_length}
use Rattle.compiler.proofs.Operands.{Sane, AllSane, procs_sane}
use Rattle.compiler.proofs.Weights.{short_row}

-- a fit of an operand, and those of the instructions behind it
operand_inside : (n k a : ℕ) (x : Operand) (fs : List Fit) → Sane k x → a < n → T (fits_inside n k fs) → T (fits_inside n k (fit_operand a x fs))
operand_inside n k a (plain m) fs h b r = r
operand_inside n k a (in_code m) fs h b r = T-both (ltb a n) (fits_inside n k fs) (lt→ltb a n b) r
operand_inside n k a (in_words m) fs h b r = T-both (ltb a n) (fits_inside n k fs) (lt→ltb a n b) r
operand_inside n k a (of_want m) fs h b r = T-both (ltb a n) (ltb m k && fits_inside n k fs) (lt→ltb a n b) (T-both (ltb m k) (fits_inside n k fs) (lt→ltb m k h) r)

fits_in_code : (n k a : ℕ) (is : List Instruction) → AllSane k is → a + length (code_words is) ≤ n → T (fits_inside n k (code_fits a is))
fits_in_code n k a [] h b = tt
fits_in_code n k a (instr o x ∷ is) h b = operand_inside n k (a + 1) x (code_fits (a + 2) is) h.0 (omega arith) (fits_in_code n k (a + 2) is h.1 (omega arith))

module _ (s : List ℕ) (u : SourceUnit) (r : UnitRow s u) where
  pub code_short : size_procs u.procs ≤ 10 * length (row_procs u.procs)
  code_short = size_procs_row u.procs

  pub unit_sane : AllSane (length u.wants) (code_unit u)
  unit_sane = procs_sane u r.words (λ n. omega (arith, proc_at_most u.procs n, row_length s u r, code_short)) u.procs 0 r.bodies r.proc_sizes
      (omega (arith, row_length s u r)) (omega (arith, row_length s u r, code_short))

  object_sound : T (sound (object u))
  object_sound = T-both (leb u.words 4096) _ (le→leb u.words 4096 r.words)
      (T-both (offers_inside (length (code_words (code_unit u))) (offers_of u u.offers)) _ (offers_begin u u.offers r.offers)
      (fits_in_code (length (code_words (code_unit u))) (length u.wants) 0 (code_unit u) unit_sane (omega arith)))

  -- so its row is one that a linker accepts
  pub object_row : ObjectRows (row_object (object u)) (object u ∷ [])
  object_row = record {
    row = append-nil (row_object (object u));
    few = omega arith;
    short = omega (arith, short_row s u r, r.short);
    inside = T-both (sound (object u)) true object_sound tt;
  }

  simulates : SimulatesUnit u (object u)
  simulates code shape i c ps d x placed wants p k a offers found =
      let f = offers_found u p k a r.offers found in
      subst₂ (λ (b n : ℕ). Simulates code shape (suc d) (c + b) n (run_unit (suc d) u i x p)) (sym f.at) f.has.args
      (own_do u code shape i c ps placed r.bodies x (suc d) (λ e n w deep there. wants e n w (omega arith) there) p f.has.proc f.has.there)

  related : ObjectOf u (object u)
  related = record {
    name = refl;
    words = refl;
    wants = refl;
    accepted = object_sound;
    offers = offers_all u;
    offers_only = λ p k a h. offers_nothing_else u p k a r.offers h;
    simulates = simulates;
  }

pub compiles : Compiles
compiles s u r = related s u r
