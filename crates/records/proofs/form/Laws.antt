-- The form of an instant's record: kind and number are read as the form that they are written of, and the other way round. Assumes nothing.
use mathlib.Core.Bool.{Bool, true, false, cond, ◌||◌}
use mathlib.Core.List.{List, [], ◌∷◌, ◌++◌}
use mathlib.Core.Path.{◌≡◌, refl, sym, ap, subst}
use Prim.Native.Nat.{ℕ, ◌≤◌}
use native.Mathlib.Omega.{arith}
use lib.ListN.{length}
use lib.Dec.{eqb}
use borrow.Author.Tests.{eqb-true}
use Rattle.records.specs.declared.form.Form.{Form}
use Rattle.records.specs.declared.form.Form.TheVariants.{Plain, Numbered}
use Rattle.records.specs.Instant.{is_instant_kind, number_length, form_of, clocks_part, form_kind, number_bytes}
use Rattle.records.specs.Types.{IsBytes, IsForm}
use Rattle.records.proofs.word.Inverse.{word_back, word-range, word-bytes}

-- ---- written, then read

pub kind-known : (form : Form) → is_instant_kind (form_kind form) ≡ true
kind-known Plain = refl
kind-known (Numbered n) = refl

pub number-length : (form : Form) → number_length (form_kind form) ≡ length (number_bytes form)
number-length Plain = refl
number-length (Numbered n) = refl

pub form-back : (form : Form) (clocks : List ℕ) → form_of (form_kind form) (number_bytes form ++ clocks) ≡ form
form-back Plain clocks = refl
form-back (Numbered n) clocks = ap Numbered (word_back n)

pub clocks-back : (form : Form) (clocks : List ℕ) → clocks_part (form_kind form) (number_bytes form ++ clocks) ≡ clocks
clocks-back Plain clocks = refl
clocks-back (Numbered n) clocks = refl

-- a number has two bytes, by the kind and by the form
pub number-few : (kind : ℕ) → number_length kind ≤ 2
number-few kind = by-test (eqb kind 33)
  where
    by-test : (t : Bool) → cond t 2 0 ≤ 2
    by-test true = omega arith
    by-test false = omega arith

pub number-most : (form : Form) → length (number_bytes form) ≤ 2
number-most form = omega (arith, number-few (form_kind form), number-length form)

-- ---- read, then written

-- a kind of an instant is one of these
data Kinds (kind : ℕ) : Type 0 where
  plain : kind ≡ 32 → Kinds kind
  numbered : kind ≡ 33 → Kinds kind

kinds : (kind : ℕ) → is_instant_kind kind ≡ true → Kinds kind
kinds kind h = by-test (eqb kind 32) refl h
  where
    by-test : (t : Bool) → eqb kind 32 ≡ t → (t || eqb kind 33) ≡ true → Kinds kind
    by-test true e h = plain (eqb-true kind 32 e)
    by-test false e h = numbered (eqb-true kind 33 h)

-- the kind and the front of a body are those of the form that they are read as
pub record FormRead (kind : ℕ) (body : List ℕ) : Type 0 where
  pub same : form_kind (form_of kind body) ≡ kind
  pub before : number_bytes (form_of kind body) ++ clocks_part kind body ≡ body
  pub value : IsForm (form_of kind body)

numbered-read : (body : List ℕ) → IsBytes body → 2 ≤ length body → FormRead 33 body
numbered-read [] h l = absurd (omega arith)
numbered-read (low ∷ []) h l = absurd (omega arith)
numbered-read (low ∷ high ∷ body) h l = record { same = refl; before = ap (λ (b : List ℕ). b ++ body) (word-bytes h.0 h.1.0); value = word-range h.0 h.1.0 }

pub form-read : (kind : ℕ) (body : List ℕ) → IsBytes body → is_instant_kind kind ≡ true → number_length kind ≤ length body → FormRead kind body
form-read kind body h k l = by_kind (kinds kind k)
  where
    by_kind : Kinds kind → FormRead kind body
    by_kind (plain e) = subst (λ (n : ℕ). FormRead n body) (sym e) (record { same = refl; before = refl; value = tt })
    by_kind (numbered e) = subst (λ (n : ℕ). FormRead n body) (sym e) (numbered-read body h (rw e at l))
