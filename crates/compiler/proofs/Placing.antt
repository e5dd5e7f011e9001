-- Fitting the code words by the fits gives the placed words.
use Rattle.std.proofs.Common.{◌≡◌, ℕ, suc, ◌+◌, ◌%◌, ◌^◌, List, [], ◌∷◌, ◌++◌, length, set, sym, refl, ap, ◌∙◌, arith, length-append}
use lib.Seq.{set_at, get_or_at}
use Rattle.std.proofs.lemmas.List.{append_assoc}
use Rattle.rows.specs.Objects.{Fit}
use Rattle.linker.specs.Linking.{Laid, fit_all}
use Rattle.machine.specs.Opcodes.{opcode_number}
use Rattle.compiler.specs.Instructions.{Operand, plain, in_code, in_words, of_want, Instruction, instr}
use Rattle.compiler.specs.Instructions.{operand_word, code_words, fit_operand, code_fits, Place, placed_word, placed_words}

pub length_placed : (l : Place) (is : List Instruction) → length (placed_words l is) ≡ length (code_words is)
length_placed l [] = refl
length_placed l (instr o x ∷ is) = ap (λ (n : ℕ). suc (suc n)) (length_placed l is)

abbrev laid_place : Laid → List ℕ → Place
laid_place l ps = record { code = l.code_at; words = l.words_at; wants = ps }

-- one fit, or none, turns the operand's word into the placed one
fit_one : (l : Laid) (ps done rest : List ℕ) (a : ℕ) (x : Operand) (fs : List Fit) → length done ≡ a →
    fit_all l ps (fit_operand a x fs) (done ++ (operand_word x ∷ rest)) ≡ fit_all l ps fs (done ++ (placed_word (laid_place l ps) x ∷ rest))
fit_one l ps done rest a (plain n) fs h = refl
fit_one l ps done rest a (in_code n) fs h = ap (fit_all l ps fs) (ap (λ (v : ℕ). set (done ++ (n ∷ rest)) a ((v + l.code_at) % 2 ^ 32))
    (get_or_at done n rest 0 a h) ∙ set_at done n rest _ a h)
fit_one l ps done rest a (in_words n) fs h = ap (fit_all l ps fs) (ap (λ (v : ℕ). set (done ++ (n ∷ rest)) a ((v + l.words_at) % 2 ^ 32))
    (get_or_at done n rest 0 a h) ∙ set_at done n rest _ a h)
fit_one l ps done rest a (of_want n) fs h = ap (fit_all l ps fs) (set_at done 0 rest _ a h)

fit_from : (l : Laid) (ps done : List ℕ) (a : ℕ) (is : List Instruction) → length done ≡ a →
    fit_all l ps (code_fits a is) (done ++ code_words is) ≡ done ++ placed_words (laid_place l ps) is
fit_from l ps done a [] h = refl
fit_from l ps done a (instr o x ∷ is) h =
    ap (fit_all l ps (fit_operand (a + 1) x fs)) (sym (append_assoc done (opcode_number o ∷ []) (operand_word x ∷ rest)))
    ∙ fit_one l ps (done ++ (opcode_number o ∷ [])) rest (a + 1) x fs (simp length-append (omega arith))
    ∙ ap (fit_all l ps fs) (simp append_assoc)
    ∙ fit_from l ps (done ++ (opcode_number o ∷ y ∷ [])) (a + 2) is (simp length-append (omega arith))
    ∙ append_assoc done (opcode_number o ∷ y ∷ []) (placed_words (laid_place l ps) is)
  where
    fs : List Fit
    fs = code_fits (a + 2) is

    rest : List ℕ
    rest = code_words is

    y : ℕ
    y = placed_word (laid_place l ps) x

pub fit_code : (l : Laid) (ps : List ℕ) (is : List Instruction) → fit_all l ps (code_fits 0 is) (code_words is) ≡ placed_words (laid_place l ps) is
fit_code l ps is = fit_from l ps [] 0 is refl
