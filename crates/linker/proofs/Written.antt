-- The loop that writes objects' codes: what is written so far, and the objects that are left.
use Rattle.std.proofs.Common.{◌≡◌, ℕ, ◌+◌, ◌-◌, ◌<◌, ◌≤◌, List, [], ◌∷◌, ◌++◌, length, get_or, take, drop, set, subst, sym, refl, ap, ◌∙◌, arith, length-set}
use borrow.Rule.Slice.PartMut.{put_mid}
use Rattle.std.proofs.lemmas.List.{append-nil, append_assoc, at_drop_all, drop-drop, take-append-drop}
use Rattle.rows.specs.Objects.{Fit}
use Rattle.linker.specs.Linking.{Laid, fitted, fit_all}
use Rattle.linker.specs.Tables.{laid_of, laid_in, objects_of, all_code}
use Rattle.linker.specs.Fitting.{places_of, fitted_code, fitted_codes}
use Rattle.linker.specs.declared.laying.Laid.{Laid as LaidView}
use Rattle.linker.proofs.Meeting.{drop_here}
use Rattle.linker.proofs.Lent.{take_behind, drop_behind}

pub length-fit_all : (l : Laid) (ps : List ℕ) (fs : List Fit) (code : List ℕ) → length (fit_all l ps fs code) ≡ length code
length-fit_all l ps [] code = refl
length-fit_all l ps (f ∷ fs) code = length-fit_all l ps fs (set code f.at (fitted l ps (get_or code f.at 0) f.kind f.want)) ∙ length-set code f.at (fitted l ps (get_or code f.at 0) f.kind f.want)

-- i objects of the table t are written, up to `at`; what lies behind is as it was
pub record WrittenSoFar (t : List LaidView) (w₀ w : List ℕ) (i at : ℕ) : Type 0 where
  pub space : at + all_code (objects_of (drop i t)) ≡ all_code (objects_of t)
  pub front : take at w ++ fitted_codes (laid_in t) (laid_in (drop i t)) ≡ fitted_codes (laid_in t) (laid_in t)
  pub behind : drop at w ≡ drop at w₀

-- one object more: `part` is what lies behind `at` afterwards
module _ (t : List LaidView) (w₀ w part : List ℕ) (i at : ℕ) (x : LaidView) (inside : i < length t) (is_here : x ≡ get_or t i x) (enough : all_code (objects_of t) ≤ length w) (so_far : WrittenSoFar t w₀ w i at) where
  abbrev own : Laid
  own = laid_of x

  abbrev n : ℕ
  n = length own.object.code

  code_here : all_code (objects_of (drop i t)) ≡ n + all_code (objects_of (drop (i + 1) t))
  code_here = drop_here (λ ls. all_code (objects_of ls)) t i x inside is_here

  pub space_here : at + n ≤ length w
  space_here = omega (arith, code_here)

  module _ (is : part ≡ fitted_code (laid_in t) own) where
    abbrev f : List ℕ
    f = fitted_code (laid_in t) own

    abbrev after : List ℕ
    after = put_mid at n w part

    long : length f ≡ n
    long = length-fit_all own (places_of (laid_in t) own.object.wants) own.object.fits own.object.code

    abbrev rest : List ℕ
    rest = fitted_codes (laid_in t) (laid_in (drop (i + 1) t))

    written_now : WrittenSoFar t w₀ after (i + 1) (at + n)
    written_now = record {
      space = omega (arith, code_here);
      front = ap (λ s. s ++ rest) (take_behind w part f at n long space_here is) ∙ (append_assoc (take at w) f rest ∙ (ap (λ s. take at w ++ s) (sym (drop_here (λ ls. fitted_codes (laid_in t) (laid_in ls)) t i x inside is_here)) ∙ so_far.front));
      behind = drop_behind w part f at n long space_here is ∙ (ap (drop n) so_far.behind ∙ drop-drop n at w₀);
    }

    pub written_more : WrittenSoFar t w₀ (put_mid at (at + n - at) w part) (i + 1) (at + n)
    written_more = subst (λ k. WrittenSoFar t w₀ (put_mid at k w part) (i + 1) (at + n)) count written_now
      where
        count : n ≡ at + n - at
        count = omega arith

-- all codes are written
pub written_all : (t : List LaidView) (w₀ w : List ℕ) (i at : ℕ) → length t ≤ i → WrittenSoFar t w₀ w i at → w ≡ fitted_codes (laid_in t) (laid_in t) ++ drop (all_code (objects_of t)) w₀
written_all t w₀ w i at end so_far = sym (take-append-drop at w) ∙ (ap (λ s. take at w ++ s) so_far.behind ∙ rw (front, whole) refl)
  where
    front : take at w ≡ fitted_codes (laid_in t) (laid_in t)
    front = sym (append-nil (take at w)) ∙ (ap (λ s. take at w ++ s) (sym (at_drop_all (λ ls. fitted_codes (laid_in t) (laid_in ls)) t i end)) ∙ so_far.front)

    whole : at ≡ all_code (objects_of t)
    whole = omega (arith, at_drop_all (λ ls. all_code (objects_of ls)) t i end)
