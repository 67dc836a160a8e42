-- Request j. Assumes nothing.
use Prim.Native.Nat.{ℕ, ◌+◌, ◌≤◌}
use mathlib.Core.List.{List}
use mathlib.Core.Path.{◌≡◌, sym, ap}
use borrow.Author.Tests.{le-leb, lt-ltb}
use lib.IntN.{ℤ}
use lib.ListN.{length}
use Rattle.board.specs.Board.{place_words, on_stretch, reset_in, cycle_in}
use Rattle.model.specs.Rules.Machine.{stretch, rows_in, reset_of, cycle_of}
use Rattle.model.specs.Rules.Outcome.{fault, refuse, ◌▷◌, provided}
use Rattle.model.specs.Rules.Tail.{tail_in, Bears}
use Rattle.model.specs.Says.Calls.{Call, call_of}
use Rattle.promises.specs.Tables.{RequestJ}
use Rattle.theorems_images.specs.Tables.{WithoutTable}
use Rattle.board.proofs.Called.{load-refused}
use Rattle.model.proofs.Pairs.Verdict.{pair-multiple, pair-accepted, pair-bounded}
use Rattle.model.proofs.Rows.Rule as Rule
use Rattle.theorems_images.proofs.FormedExactly as FormedExactly
use Rattle.theorems_images.proofs.Former.{not-lent}
use Rattle.theorems_images.proofs.Stretched as Stretched
use Rattle.theorems_streams.proofs.Looked.{rows-stored, table-of-image}
use Rattle.theorems_streams.proofs.Worded.{elements-words, table-yields}

-- Every call on an image from before is refused by 20.
former-refuses : {image tail lent : List ℕ} → WithoutTable image → Bears image tail lent → (state : List ℤ) (c : Call) →
    (call_of lent state c).answer ≡ refuse 20 0
unfolding call_of reset_of cycle_of ◌▷◌ provided
former-refuses o b state Call.reset = rw (not-lent o b)
former-refuses o b state (Call.cycle samples) = rw (not-lent o b)

module _ {image tail : List ℕ} (o : WithoutTable image) (images : List ℕ) (start size : ℕ)
    (inside : start + size ≤ length images) (bears : Bears image tail (stretch images start (start + size))) where
  reset-refused : (words : List ℤ) → (reset_in images start size words).answer ≡ refuse 20 0
  unfolding on_stretch call_of
  reset-refused words =
      rw (le-leb (start + size) (length images) inside) (former-refuses o bears words Call.reset)

  cycle-refused : (words samples : List ℤ) → (cycle_in images start size words samples).answer ≡ refuse 20 0
  unfolding on_stretch call_of
  cycle-refused words samples =
      rw (le-leb (start + size) (length images) inside) (former-refuses o bears words (Call.cycle samples))

pub request-j : RequestJ
request-j =
    record {
      table-rule = Rule.table-rule;
      sorted-rule = λ rows others r c w f. sym (Rule.table-reordered r c w f);
      of-streams = λ program schedule bytes p s h e inputs X given sat.
          let accepts = pair-accepted program schedule _ e in
          let bounded = pair-bounded program schedule _ e bytes in
          record {
            stream-words = elements-words p s h accepts bounded inputs given X sat;
            stream-table = table-yields p s h accepts bounded inputs given X sat;
          };
      rows-stand = Stretched.rows-stand;
      image-rows = λ program schedule bytes q e.
          rows-stored q.program q.schedule q.hypercycle (pair-accepted program schedule q e)
          (pair-multiple program schedule q e) (pair-bounded program schedule q e bytes);
      image-table = λ program schedule bytes q e.
          table-of-image q.program q.schedule q.hypercycle (pair-accepted program schedule q e)
          (pair-multiple program schedule q e) (pair-bounded program schedule q e bytes);
      formed-covers = λ image e some w f.
          let o = ((FormedExactly.well-formed-exactly image).0 e).covers some w f in
          (o.0, o.1, o.2, Rule.table-rule (rows_in image) w o.0 o.1 o.2);
      former-refused = λ image tail lent o b. (former-refuses o b, unfold tail_in ◌▷◌ provided in (rw (not-lent o b)));
      former-place = λ o images start size inside bears.
          record {
            former-load = λ b state k lt long.
                ap (λ r. r.answer)
                (load-refused b images state k start size (lt-ltb k 4 lt) (le-leb 260 (length state) long) (fault 20 0)
                (reset-refused o images start size inside bears (place_words k state)));
            former-reset = reset-refused o images start size inside bears;
            former-cycle = cycle-refused o images start size inside bears;
          };
    }
