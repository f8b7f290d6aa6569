-- What a remainder is made of, in the documents' words and with quantifiers over the numbers of instants: unmet obligations, countdowns, leads and stopped clocks.
-- Nothing here is taken from the executable definitions `unmet`, `run_countdowns` and `remainder`. Assumes nothing.
use mathlib.Core.List.{List, Memᴰ}
use Rattle.std.specs.Prelude.{◌⊎◌, ◌≡◌, ℕ, suc, ◌+◌, ◌-◌, ◌<◌, ℤ, pos, ◌+ℤ◌, length, ◌≤ℤ◌}
use Rattle.records.specs.declared.line.Line.{Line}
use Rattle.records.specs.declared.line.Line.TheVariants.{Sporadic, Delayed, Weakly, Strictly, Kills, Counted}
use Rattle.tesl.specs.Run.{Filled}
use Rattle.tesl.specs.Fits.{Obligation, Countdown}
use Rattle.tesl.specs.Formula.{Ticking, tag, ticks_below}

-- an obligation is met by a tick of its clock at an instant, here number m, whose on-tag equals the due
abbrev pub MetAt : List Filled → Obligation → ℕ → Type 0
MetAt run o m = (m < length run) × Ticking run o.clock m × (tag run o.on m ≡ o.due)

-- an unmet obligation of a filled run, on a scale with the end `most`; `unmet` lists these and no others: `unmet-listed`, proofs/Unmet.antt
pub data Unmet (most : ℤ) (ls : List Line) (run : List Filled) (o : Obligation) : Type 0 where
  -- a sporadic line is one from the start, with clock A, due t, on B; no instant meets it
  sporadic : (A B : ℕ) (t : ℤ) → Memᴰ (Sporadic A B t) ls
      → o ≡ record { clock = A; due = t; on = B }
      → ((m : ℕ) → MetAt run o m → ⊥)
      → Unmet most ls run o
  -- each tick of A of a delay line, here at instant n, begins one: clock D, due tag(B) + d, on B, unless its due would exceed the greatest tag; no later instant meets it
  delayed : (A B D d : ℕ) → Memᴰ (Delayed A B D d) ls
      → (n : ℕ) → n < length run → Ticking run A n
      → (tag run B n +ℤ pos d) ≤ℤ most
      → o ≡ record { clock = D; due = tag run B n +ℤ pos d; on = B }
      → ((m : ℕ) → n < m → MetAt run o m → ⊥)
      → Unmet most ls run o

-- no obligation is unmet
abbrev pub NoneUnmet : ℤ → List Line → List Filled → Type 0
NoneUnmet most ls run = (o : Obligation) → Unmet most ls run o → ⊥

-- a countdown of a filled run: A of a counted line ticks at instant i, B has ticked m times since, from the following instant on, and n - m more are wanted; `run_countdowns` lists these and no others: `countdowns-listed`, proofs/Unmet.antt
pub data Counting (ls : List Line) (run : List Filled) (c : Countdown) : Type 0 where
  counted : (A B D n : ℕ) → Memᴰ (Counted A B D n) ls
      → (i : ℕ) → i < length run → Ticking run A i
      → (m : ℕ) → ticks_below run B (length run) ≡ ticks_below run B (suc i) + m → m < n
      → c ≡ record { clock = D; on = B; wanted = n - m }
      → Counting ls run c

-- a line of the sheet by which A precedes B, weakly or strictly
abbrev pub Precedes : List Line → ℕ → ℕ → Type 0
Precedes ls A B = Memᴰ (Weakly A B) ls ⊎ Memᴰ (Strictly A B) ls

-- the lead of such a line in a filled run: A's ticks minus B's are n
pub record Lead (ls : List Line) (run : List Filled) (A B n : ℕ) : Type 0 where
  pub line : Precedes ls A B
  pub ticks : ticks_below run A (length run) ≡ ticks_below run B (length run) + n

-- some kills line has stopped clock k: it is the line's B, and the line's A has ticked, here at instant i
abbrev pub Stopped : List Line → List Filled → ℕ → Type 0
Stopped ls run k = (A : ℕ) × Memᴰ (Kills A k) ls × (i : ℕ) × (i < length run) × Ticking run A i

-- none is owed, neither by a due nor by count
pub record NoneOwed (most : ℤ) (ls : List Line) (run : List Filled) : Type 0 where
  pub unmet : NoneUnmet most ls run
  pub counting : (c : Countdown) → Counting ls run c → ⊥
