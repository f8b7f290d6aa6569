-- The next instant: what it tells of the record and of the instants held, and the tests that the code makes. Assumes nothing.
use mathlib.Core.Bool.{Bool, true, false}
use mathlib.Core.List.{List}
use mathlib.Core.Path.{◌≡◌, refl, ap, ◌∙◌, subst}
use Prim.Native.Nat.{ℕ, suc, ◌≤◌, ◌<◌}
use native.Mathlib.Omega.{arith}
use borrow.Author.Tests.{le-leb, lt-leb, leb-false, eqb-true, not-false}
use Rattle.records.specs.declared.form.Form.TheVariants.{Numbered}
use Rattle.records.specs.declared.instant.Instant.{Instant}
use Rattle.std.specs.Prelude.{Result, Ok}
use Rattle.records.specs.declared.refusal.Refusal.{Refusal}
use Rattle.records.specs.Outcome.{Outcome, taken, refused, outcome_of}
use Rattle.records.specs.Instant.{InstantValue, read_instant, instant_read}
use Rattle.records.specs.Next.{is_next, next_checks, if_next, read_next}
use Rattle.records.proofs.Lists.{refused-taken, taken-passed, refused-number}
use Rattle.records.proofs.instant.Front.{read_number}
use Rattle.records.proofs.instant.Read.{Read, number-refused, read_done}

-- ---- what was read as the next

-- what was read as the next instant is what reading alone gives; fewer than 4,000 are held, and a number is one above them
pub record NextRead (c held : ℕ) (bytes : List ℕ) (v : InstantValue) : Type 0 where
  pub read : read_instant c bytes ≡ taken v
  pub room : held < 4000
  pub next : is_next held v.form ≡ true

pub next-read : (c held : ℕ) (bytes : List ℕ) {v : InstantValue} → read_next c held bytes ≡ taken v → NextRead c held bytes v
unfolding read_next
next-read c held bytes {v} e = by-outcome (read_instant c bytes) refl e
  where
    by-outcome : (o : Outcome InstantValue) → read_instant c bytes ≡ o → if_next held o ≡ taken v → NextRead c held bytes v
    by-outcome (refused n) r x = refused-taken x
    by-outcome (taken w) r x =
        let p = taken-passed (next_checks held w.form) x in
        subst (NextRead c held bytes) p.1 (record { read = r; room = leb-false 4000 held p.0.0; next = not-false (is_next held w.form) p.0.1.0 })

pub read_next-law : (c held : ℕ) (bytes : List ℕ) {v : InstantValue} → NextRead c held bytes v → read_next c held bytes ≡ taken v
unfolding read_next
read_next-law c held bytes r = rw (r.read, lt-leb 4000 held r.room, r.next)

-- the number of a numbered one
pub next-number : (held n : ℕ) → is_next held (Numbered n) ≡ true → n ≡ suc held
next-number held n e = eqb-true n (suc held) e

-- refused with a number up to 19
pub next-refused : (c held : ℕ) (bytes : List ℕ) {n : ℕ} → read_next c held bytes ≡ refused n → n ≤ 19
unfolding read_next
next-refused c held bytes {n} e = by-outcome (read_instant c bytes) refl e
  where
    by-outcome : (o : Outcome InstantValue) → read_instant c bytes ≡ o → if_next held o ≡ refused n → n ≤ 19
    by-outcome (refused k) r x = omega (arith, read_number c bytes (r ∙ x))
    by-outcome (taken w) r x = refused-number (λ (k : ℕ). k ≤ 19) (next_checks held w.form) w (omega arith, (omega arith, tt)) x

-- ---- the code

-- what was done has room for one more
pub done-room : (c held : ℕ) (bytes : List ℕ) {x : Result Instant Refusal} → outcome_of x ≡ instant_read (read_next c held bytes) → {i : Instant} → x ≡ Ok i → held < 4000
done-room c held bytes h q = (next-read c held bytes (read_done (read_next c held bytes) h q).is).room

-- the answers of `read_next`
module _ (c held : ℕ) (bytes : List ℕ) where
  -- 4, 12 to 15
  pub next-unread : {n : ℕ} → refused n ≡ instant_read (read_instant c bytes) → refused n ≡ instant_read (read_next c held bytes)
  unfolding read_next
  next-unread h = rw (number-refused (read_instant c bytes) h)

  module _ {i : Instant} (h : taken i ≡ instant_read (read_instant c bytes)) where
    was_read : Read (read_instant c bytes) i
    was_read = read_done (read_instant c bytes) {x = Ok i} h refl

    -- 16
    pub next-full : 4000 ≤ held → refused 16 ≡ instant_read (read_next c held bytes)
    unfolding read_next
    next-full k = rw (was_read.is, le-leb 4000 held k)

    module _ (k : held < 4000) {t : Bool} (e : t ≡ is_next held i.form) where
      tested : t ≡ is_next held was_read.value.form
      tested = e ∙ ap (λ (j : Instant). is_next held j.form) was_read.struct

      -- 19
      pub next-other : t ≡ false → refused 19 ≡ instant_read (read_next c held bytes)
      unfolding read_next
      next-other f = rw (was_read.is, lt-leb 4000 held k, ← tested, f)

      pub next-taken : t ≡ true → taken i ≡ instant_read (read_next c held bytes)
      unfolding read_next
      next-taken f = h ∙ rw (was_read.is, lt-leb 4000 held k, ← tested, f)
