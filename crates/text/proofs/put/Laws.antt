-- A text put into a buffer, lines behind lines: what stands is what was to be put so far, and what is left has room since the whole text has. Assumes nothing.
use mathlib.Core.List.{List, [], ◌∷◌, ◌++◌, append-nil, append_assoc}
use mathlib.Core.Path.{◌≡◌, refl, sym, ap, ◌∙◌}
use Prim.Native.Nat.{ℕ, suc, ◌+◌, ◌≤◌}
use native.Mathlib.Omega.{arith}
use lib.ListN.{length, length-append}
use Rattle.records.specs.Outcome.{Outcome, taken, refused}
use Rattle.records.specs.Store.{puts}
use Rattle.records.proofs.Store.{puts-both, length-puts, puts-front}
use Rattle.text.specs.declared.build.Text.{Text}
use Rattle.text.specs.Text.{text_of, refusal_line}
use Rattle.text.specs.Output.{lines_from, printed, printed_as}
use Rattle.text.specs.Built.{PutLine}

-- ---- a line

module _ {buffer after : List ℕ} {at end : ℕ} {t : Text} (p : PutLine buffer at t end after) where
  module _ {line : List ℕ} (e : text_of t ≡ line) where
    pub put-bytes : after ≡ puts buffer at line
    put-bytes = rw e at p.stored

    pub put-end : end ≡ at + length line
    put-end = rw e at p.ends

-- ---- a text

-- of a text, `rest` is left to be put behind the first `end` bytes
pub record Putting (text out₀ out : List ℕ) (end : ℕ) (rest : List ℕ) : Type 0 where
  pub done : List ℕ
  pub whole : done ++ rest ≡ text
  pub ends : end ≡ length done
  pub stored : out ≡ puts out₀ 0 done

pub putting-start : (text out : List ℕ) → Putting text out out 0 text
putting-start text out = record { done = []; whole = refl; ends = refl; stored = refl }

module _ {text out₀ out : List ℕ} {end : ℕ} {rest : List ℕ} (w : Putting text out₀ out end rest) where
  pub same_size : length out ≡ length out₀
  same_size = rw w.stored (length-puts out₀ 0 w.done)

  module _ (lines later : List ℕ) (e : rest ≡ lines ++ later) where
    pub lines-room : length text ≤ length out₀ → end + length lines ≤ length out
    lines-room room = omega (arith, w.ends, same_size, length-append w.done rest, length-append lines later, ap length e, ap length w.whole)

    pub putting-more : {next : List ℕ} {after : ℕ} → next ≡ puts out end lines → after ≡ end + length lines → Putting text out₀ next after later
    putting-more q f =
        let k : end ≡ 0 + length w.done = omega (arith, w.ends) in
        record {
          done = w.done ++ lines;
          whole = append_assoc w.done lines later ∙ rw (← e) w.whole;
          ends = omega (arith, length-append w.done lines, w.ends);
          stored = puts-both out₀ 0 w.done lines w.stored (q ∙ rw k);
        }

  pub all-put : rest ≡ [] → length text ≤ length out₀ → printed_as end out ≡ printed text out₀
  all-put e room =
      let d : w.done ≡ text = sym (append-nil w.done) ∙ rw e at w.whole in
      rw (w.ends, w.stored, d, puts-front out₀ text room)

-- a text that is put in one
pub put-once : (text out : List ℕ) {after : List ℕ} {end : ℕ} → length text ≤ length out → after ≡ puts out 0 text → end ≡ 0 + length text → printed_as end after ≡ printed text out
put-once text out room q f = all-put (putting-more (putting-start text out) text [] (sym (append-nil text)) q f) refl room

-- ---- what is printed along a log: lines for each that is taken, up to the first refusal

-- of a text, the lines of the outcomes that are left; n were taken before them
pub record Printing {A : Type 0} (lines : ℕ → A → List ℕ) (text out₀ out : List ℕ) (end n : ℕ) (left : List (Outcome A)) : Type 0 where
  pub putting : Putting text out₀ out end (lines_from lines (suc n) left)

module _ {A : Type 0} {lines : ℕ → A → List ℕ} {text out₀ out : List ℕ} {end n : ℕ} {left : List (Outcome A)} (w : Printing lines text out₀ out end n left) (room : length text ≤ length out₀) where
  pub printed-end : left ≡ [] → printed_as end out ≡ printed text out₀
  unfolding lines_from
  printed-end e = all-put w.putting (rw e) room

  module _ {k : ℕ} {later : List (Outcome A)} (e : left ≡ refused k ∷ later) where
    refused-lines : lines_from lines (suc n) left ≡ refusal_line k ++ []
    unfolding lines_from
    refused-lines = rw e (sym (append-nil (refusal_line k)))

    pub refused-room : end + length (refusal_line k) ≤ length out
    refused-room = lines-room w.putting (refusal_line k) [] refused-lines room

    pub printed-refused : {next : List ℕ} {last : ℕ} → next ≡ puts out end (refusal_line k) → last ≡ end + length (refusal_line k) → printed_as last next ≡ printed text out₀
    printed-refused q f = all-put (putting-more w.putting (refusal_line k) [] refused-lines q f) refl room

  module _ {x : A} {later : List (Outcome A)} (e : left ≡ taken x ∷ later) {bytes : List ℕ} (b : bytes ≡ lines (suc n) x) where
    taken-lines : lines_from lines (suc n) left ≡ bytes ++ lines_from lines (suc (suc n)) later
    unfolding lines_from
    taken-lines = rw (e, b)

    pub taken-room : end + length bytes ≤ length out
    taken-room = lines-room w.putting bytes (lines_from lines (suc (suc n)) later) taken-lines room

    pub printing-more : {next : List ℕ} {last : ℕ} → next ≡ puts out end bytes → last ≡ end + length bytes → Printing lines text out₀ next last (suc n) later
    printing-more q f = record { putting = putting-more w.putting bytes (lines_from lines (suc (suc n)) later) taken-lines q f }
