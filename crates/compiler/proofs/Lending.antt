-- Instructions that a writer has written one behind the other, and an operand filled in afterwards.
use Rattle.std.proofs.Common.{◌≡◌, ℕ, ◌+◌, ◌≤◌, List, [], ◌∷◌, ◌++◌, length, set, Some, None, Option, sym, refl, ap, ◌∙◌, subst, arith, length-append}
use Rattle.std.proofs.lemmas.List.{append-nil, append_assoc, set_at}
use Rattle.rows.specs.Objects.{Fit}
use Rattle.rows.specs.ObjectRows.{row_fits}
use Rattle.machine.specs.Instructions.{Opcode}
use Rattle.machine.specs.Opcodes.{opcode_number}
use Rattle.compiler.specs.Instructions.{Operand, plain, in_code, in_words, of_want, Instruction, instr, operand_word, code_words, fit_operand, code_fits}
use Rattle.compiler.specs.Writing.{fit_row, State, changed, Wrote, WroteOne}
use Rattle.compiler.proofs.Lying.{words_append}

row_fits-append : (fs gs : List Fit) → row_fits (fs ++ gs) ≡ row_fits fs ++ row_fits gs
row_fits-append [] gs = refl
row_fits-append (f ∷ fs) gs = ap (λ s. f.at ∷ f.kind ∷ f.want ∷ s) (row_fits-append fs gs)

fit_operand-append : (a : ℕ) (x : Operand) (fs gs : List Fit) → fit_operand a x (fs ++ gs) ≡ fit_operand a x fs ++ gs
fit_operand-append a (plain n) fs gs = refl
fit_operand-append a (in_code n) fs gs = refl
fit_operand-append a (in_words n) fs gs = refl
fit_operand-append a (of_want n) fs gs = refl

fits_append : (a b : ℕ) (is js : List Instruction) → a + length (code_words is) ≡ b → code_fits a (is ++ js) ≡ code_fits a is ++ code_fits b js
fits_append a b [] js e = let z : a ≡ b = omega arith in ap (λ n. code_fits n js) z
fits_append a b (instr o x ∷ is) js e = ap (fit_operand (a + 1) x) (fits_append (a + 2) b is js (omega arith)) ∙ fit_operand-append (a + 1) x (code_fits (a + 2) is) (code_fits b js)

-- how long the code is then
pub wrote_at : (is : List Instruction) (s s₁ : State) → Wrote is s s₁ → length s₁.code ≡ length s.code + length (code_words is)
wrote_at is s s₁ w = ap (λ (xs : List ℕ). length xs) w.code ∙ length-append s.code (code_words is)

-- nothing is written
pub wrote_none : (s : State) → Wrote [] s s
wrote_none s = record { code = sym (append-nil s.code); fits = sym (append-nil s.fits) }

-- one list of instructions and then another
pub wrote_more : (is js : List Instruction) (s s₁ s₂ : State) → Wrote is s s₁ → Wrote js s₁ s₂ → Wrote (is ++ js) s s₂
wrote_more is js s s₁ s₂ w v = record {
  code = v.code ∙ (ap (λ xs. xs ++ code_words js) w.code ∙ (append_assoc s.code (code_words is) (code_words js) ∙ ap (λ xs. s.code ++ xs) (sym (words_append is js))));
  fits = v.fits ∙ (ap (λ xs. xs ++ row_fits (code_fits (length s₁.code) js)) w.fits ∙ (append_assoc s.fits (row_fits (code_fits (length s.code) is)) (row_fits (code_fits (length s₁.code) js)) ∙ ap (λ xs. s.fits ++ xs) (sym rows)));
}
  where
    rows : row_fits (code_fits (length s.code) (is ++ js)) ≡ row_fits (code_fits (length s.code) is) ++ row_fits (code_fits (length s₁.code) js)
    rows = ap row_fits (fits_append (length s.code) (length s₁.code) is js (sym (wrote_at is s s₁ w))) ∙ row_fits-append (code_fits (length s.code) is) (code_fits (length s₁.code) js)

-- the same by another list that is equal
pub wrote_as : (is js : List Instruction) (s s₁ : State) → is ≡ js → Wrote is s s₁ → Wrote js s s₁
wrote_as is js s s₁ e w = subst (λ ks. Wrote ks s s₁) e w

-- an operand that wants the same fit, in the place of another
module _ (o : Opcode) (x y : Operand) (alike : (b : ℕ) (fs : List Fit) → fit_operand b x fs ≡ fit_operand b y fs) where
  fits_alike : (a : ℕ) (is js : List Instruction) → code_fits a (is ++ (instr o x ∷ js)) ≡ code_fits a (is ++ (instr o y ∷ js))
  fits_alike a [] js = alike (a + 1) (code_fits (a + 2) js)
  fits_alike a (instr p z ∷ is) js = ap (fit_operand (a + 1) z) (fits_alike (a + 2) is js)

  words_alike : (q : List ℕ) (is js : List Instruction) (i : ℕ) → i ≡ length q + length (code_words is) + 1 → set (q ++ code_words (is ++ (instr o x ∷ js))) i (operand_word y) ≡ q ++ code_words (is ++ (instr o y ∷ js))
  words_alike q is js i e =
      ap (λ s. set s i (operand_word y)) (regroup x) ∙ (set_at front (operand_word x) (code_words js) (operand_word y) i long ∙ sym (regroup y))
    where
      front : List ℕ
      front = q ++ (code_words is ++ (opcode_number o ∷ []))

      regroup : (z : Operand) → q ++ code_words (is ++ (instr o z ∷ js)) ≡ front ++ (operand_word z ∷ code_words js)
      regroup z = ap (λ s. q ++ s) (words_append is (instr o z ∷ js) ∙ sym (append_assoc (code_words is) (opcode_number o ∷ []) (operand_word z ∷ code_words js))) ∙ sym (append_assoc q (code_words is ++ (opcode_number o ∷ [])) (operand_word z ∷ code_words js))

      long : length front ≡ i
      long = length-append q (code_words is ++ (opcode_number o ∷ [])) ∙ omega (arith, length-append (code_words is) (opcode_number o ∷ []))

  pub filled_in : (is js : List Instruction) (s s₁ : State) (i : ℕ) → Wrote (is ++ (instr o x ∷ js)) s s₁ → i ≡ length s.code + length (code_words is) + 1 → Wrote (is ++ (instr o y ∷ js)) s (changed s₁ i (operand_word y))
  filled_in is js s s₁ i w place = record {
    code = ap (λ xs. set xs i (operand_word y)) w.code ∙ words_alike s.code is js i place;
    fits = w.fits ∙ ap (λ fs. s.fits ++ row_fits fs) (fits_alike (length s.code) is js);
  }

-- an operand wants at most one fit, and a number that stays as it is none
pub few_fits : (a : ℕ) (x : Operand) → length (row_fits (fit_operand a x [])) ≤ 3
few_fits a (plain n) = omega arith
few_fits a (in_code n) = omega arith
few_fits a (in_words n) = omega arith
few_fits a (of_want n) = omega arith

-- how much one instruction adds
pub one_at : (o : Opcode) (x : Operand) (s s₁ : State) → WroteOne (instr o x) s s₁ → length s₁.code ≡ length s.code + 2
one_at o x s s₁ own = wrote_at (instr o x ∷ []) s s₁ own.wrote

pub one_fitted : (o : Opcode) (x : Operand) (s s₁ : State) → WroteOne (instr o x) s s₁ → length s₁.fits ≤ length s.fits + 3
one_fitted o x s s₁ own = omega (arith, ap (λ (xs : List ℕ). length xs) own.wrote.fits, length-append s.fits (row_fits (code_fits (length s.code) (instr o x ∷ []))), few_fits (length s.code + 1) x)

pub plain_fitted : (o : Opcode) (n : ℕ) (s s₁ : State) → WroteOne (instr o (plain n)) s s₁ → length s₁.fits ≡ length s.fits
plain_fitted o n s s₁ own = ap (λ (xs : List ℕ). length xs) (own.wrote.fits ∙ append-nil s.fits)

-- one instruction, whose words are put behind the code, and those of its fit behind the fits
pub wrote_one : (o : Opcode) (x : Operand) (s s₁ : State) (words fit : List ℕ) (place : ℕ) → words ≡ code_words (instr o x ∷ []) → fit ≡ row_fits (fit_operand place x []) → place ≡ length s.code + 1 →
    s₁.code ≡ s.code ++ words → s₁.fits ≡ s.fits ++ fit → Wrote (instr o x ∷ []) s s₁
wrote_one o x s s₁ words fit place is_words is_fit at code fits = record {
  code = code ∙ ap (λ w. s.code ++ w) is_words;
  fits = fits ∙ ap (λ f. s.fits ++ f) (is_fit ∙ ap (λ a. row_fits (fit_operand a x [])) at);
}

-- with no fit
pub no_fit : (o : Option (List ℕ)) → ((words : List ℕ) → o ≡ Some words → ⊥) → fit_row o ≡ []
no_fit None none = refl
no_fit (Some words) none = absurd (none words refl)

-- the same by another instruction that is equal
pub one_as : (i j : Instruction) (s s₁ : State) → i ≡ j → WroteOne i s s₁ → WroteOne j s s₁
one_as i j s s₁ e own = subst (λ k. WroteOne k s s₁) e own
