-- Which object a view of a row means: its wants, offers and fits are three words each.
use Rattle.std.specs.Prelude.{ℕ, zero, suc, Bool, ◌&&◌, ◌||◌, List, map, nat_lt, slice_index}
use Rattle.rows.specs.Units.{Want}
use Rattle.rows.specs.Objects.{Fit, Offer, Object}
use Rattle.rows.specs.declared.objects.Want.{Want as WantWords}
use Rattle.rows.specs.declared.objects.Offer.{Offer as OfferWords}
use Rattle.rows.specs.declared.objects.Fit.{Fit as FitWords}
use Rattle.rows.specs.declared.objects.Kind.{Kind}
use Rattle.rows.specs.declared.objects.Kind.TheVariants.{Code, Words, Want as WantKind}
use Rattle.rows.specs.declared.objects.ObjectView.{ObjectView}

-- a want, an offer, a fit as the code has them
abbrev pub want_of : WantWords → Want
want_of w = record { unit = w.unit; proc = w.proc; args = w.args }

abbrev pub offer_of : OfferWords → Offer
offer_of o = record { proc = o.proc; args = o.args; at = o.at }

abbrev pub fit_of : FitWords → Fit
fit_of f = record { at = f.at; kind = f.kind; want = f.want }

-- what three words say
abbrev pub want_in : List ℕ → Want
want_in s = record { unit = slice_index s 0; proc = slice_index s 1; args = slice_index s 2 }

abbrev pub offer_in : List ℕ → Offer
offer_in s = record { proc = slice_index s 0; args = slice_index s 1; at = slice_index s 2 }

abbrev pub fit_in : List ℕ → Fit
fit_in s = record { at = slice_index s 0; kind = slice_index s 1; want = slice_index s 2 }

abbrev pub wants_in : List (List ℕ) → List Want
wants_in ts = map want_in ts

abbrev pub offers_in : List (List ℕ) → List Offer
offers_in ts = map offer_in ts

abbrev pub fits_in : List (List ℕ) → List Fit
fits_in ts = map fit_in ts

abbrev pub object_of : ObjectView → Object
object_of v = record { name = v.name; words = v.words; wants = wants_in v.wants.now; offers = offers_in v.offers.now; code = v.code.now; fits = fits_in v.fits.now }

-- what a fit of that kind and want does
abbrev pub what : ℕ → ℕ → Kind
what zero want = Code
what (suc zero) want = Words
what (suc (suc kind)) want = WantKind want

-- the fit of the word at a place that does so; where it names no want, the want's word is 0
abbrev pub fit_doing : ℕ → Kind → Fit
fit_doing at Code = record { at = at; kind = 0; want = 0 }
fit_doing at Words = record { at = at; kind = 1; want = 0 }
fit_doing at (WantKind want) = record { at = at; kind = 2; want = want }

-- one fit is inside a code of n words and names one of k wants where it has to
abbrev pub fit_inside : ℕ → ℕ → Fit → Bool
fit_inside n k f = nat_lt f.at n && (nat_lt f.kind 3 && (nat_lt f.kind 2 || nat_lt f.want k))
