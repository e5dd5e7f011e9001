-- Words written behind the first of a list, whose part from there on is lent.
use Rattle.std.proofs.Common.{◌≡◌, ℕ, ◌+◌, ◌≤◌, List, ◌++◌, length, take, drop, sym, ap, ◌∙◌, arith}
use borrow.Rule.Slice.PartMut.{put_mid}
use Rattle.std.proofs.lemmas.List.{append_assoc, take_at, drop_at, length-take-le, length-append}

-- n words f were written behind the first `at` of w
module _ (w part f : List ℕ) (at n : ℕ) (long : length f ≡ n) (inside : at + n ≤ length w) (is : part ≡ f) where
  written_behind : put_mid at n w part ≡ (take at w ++ f) ++ drop n (drop at w)
  written_behind = ap (λ p. take at w ++ (p ++ drop n (drop at w))) is ∙ sym (append_assoc (take at w) f (drop n (drop at w)))

  front_length : length (take at w ++ f) ≡ at + n
  front_length = length-append (take at w) f ∙ (ap (λ m. m + length f) (length-take-le at w (omega arith)) ∙ ap (λ m. at + m) long)

  pub take_behind : take (at + n) (put_mid at n w part) ≡ take at w ++ f
  take_behind = ap (take (at + n)) written_behind ∙ take_at (take at w ++ f) (drop n (drop at w)) (at + n) front_length

  pub drop_behind : drop (at + n) (put_mid at n w part) ≡ drop n (drop at w)
  drop_behind = ap (drop (at + n)) written_behind ∙ drop_at (take at w ++ f) (drop n (drop at w)) (at + n) front_length
