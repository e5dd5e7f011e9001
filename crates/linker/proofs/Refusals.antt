-- What `?` passes on.
use Rattle.std.proofs.Common.{◌≡◌, ℕ, Some, None, Option, Ok, Err, Result, IsErrAnd, ok_or, refl, arith}

-- what holds of a refusal holds where it is passed on
pub passed_on : {A E : Type 0} (P : Result A E → Type 0) (e' : E) (r : Result A E) → IsErrAnd r (λ e. e ≡ e') → P (Err e') → P r
passed_on P e' (Ok x) is so = absurd is
passed_on P e' (Err e) is so = rw is so

-- a refusal in place of None is the one given, and there was None
pub refused_as : {A E : Type 0} (o : Option A) (e x : E) → Err x ≡ ok_or o e → (x ≡ e) × (None ≡ o)
refused_as None e x is = (cc, refl)
refused_as (Some y) e x is = absurd (let z : ◌≡◌ {A = ℕ} 0 1 = cc in omega arith)
