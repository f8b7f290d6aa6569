-- What is printed for the front of files is printed for the whole files, where the front decides. Assumes nothing.
use Rattle.std.proofs.Common.{List, ◌++◌, ◌≡◌, ap, ◌∙◌, ℕ, ◌≤◌, arith, length, take, drop, length-append}
use Rattle.records.specs.Types.{IsBytes}
use Rattle.text.specs.Output.{watch_text, columns_text, Printed, printed, printed_as, SortPrinted}
use Rattle.text.proofs.Front.{front-decides, sort-front-decides}
use Rattle.programs.specs.Files.{FilesPrinted, SortedFilePrinted}

-- what is printed is within the buffer
printed-within : (text before : List ℕ) {after : List ℕ} {size : ℕ} → printed_as size after ≡ printed text before → size ≤ length after
printed-within text before {after} {size} p =
    let n : size ≡ length text = ap (λ (x : Printed). x.size) p in
    let e : after ≡ text ++ drop (length text) before = ap (λ (x : Printed). x.buffer) p in
    omega (arith, ap length e, length-append text (drop (length text) before))

module _ (text : List ℕ → List ℕ → List ℕ) (a b : ℕ) (decides : (s l : List ℕ) → IsBytes s → IsBytes l → text (take a s) (take b l) ≡ text s l) where
  files-printed : (sheet log : List ℕ) {before after : List ℕ} {size : ℕ} → printed_as size after ≡ printed (text sheet log) before → FilesPrinted text a b sheet log before size after
  files-printed sheet log {before} {after} {size} p = record {
    whole = λ s l hs hl es el.
        let same : text sheet log ≡ text s l = rw (← es, ← el) (decides s l hs hl) in
        p ∙ ap (λ (t : List ℕ). printed t before) same;
    within = printed-within (text sheet log) before p;
  }

-- the rooms that are large enough
module _ {a b : ℕ} (sheet-room : 65704 ≤ a) (log-room : 185539 ≤ b) (sheet log : List ℕ) {before after : List ℕ} {size : ℕ} where
  pub watch-printed : printed_as size after ≡ printed (watch_text sheet log) before → FilesPrinted watch_text a b sheet log before size after
  watch-printed p = files-printed watch_text a b (front-decides a b sheet-room log-room).watch sheet log p

  pub columns-printed : printed_as size after ≡ printed (columns_text sheet log) before → FilesPrinted columns_text a b sheet log before size after
  columns-printed p = files-printed columns_text a b (front-decides a b sheet-room log-room).columns sheet log p

pub sort-printed : {a : ℕ} → 65704 ≤ a → (sheet before : List ℕ) {after : List ℕ} {size : ℕ} → SortPrinted sheet before size after → SortedFilePrinted a sheet before size after
sort-printed {a} sheet-room sheet before p = record {
  whole = λ s h e. record { text = p.text; sorts = sort-front-decides a sheet-room s p.text h (rw e p.sorts); is = p.is };
  within = printed-within p.text before p.is;
}
