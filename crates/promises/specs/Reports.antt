-- Request a: image size and work before compiling. When a report is refused, what it tells and what it leaves.
use Rattle.std.specs.Prelude.{ℕ, ◌^◌, ◌<◌, List, ◌↔◌, ◌≡◌, ℤ, length}
use Rattle.model.specs.Rules.Compile.{Pair, pair_of}
use Rattle.model.specs.Rules.Image.{image_of, written_of}
use Rattle.model.specs.Rules.Machine.{cycle_of}
use Rattle.model.specs.Rules.Outcome.{accepted, refused}
use Rattle.model.specs.Rules.Program.{Program}
use Rattle.model.specs.Rules.Report.{report_of}
use Rattle.model.specs.Rules.Schedule.{Schedule}
use Rattle.model.specs.Rules.Word.{AreBytes}
use Rattle.model.specs.declared.Fault.{Fault}
use Rattle.model.specs.declared.Sizes.{Sizes}
use Rattle.theorems_images.specs.Images.{Reports}

-- A report refuses exactly as the pair is refused, and then leaves the counts as they were. Otherwise the L and
-- the L + 4N that it tells are the lengths of the pair's image and of what compile writes.
pub record ReportsExactly (program schedule counts : List ℕ) : Type 0 where
  pub refuses : (f : Fault) → ((report_of program schedule counts).answer ≡ refused f) ↔ (pair_of program schedule ≡ refused f)
  pub tells : (sizes : Sizes) → (report_of program schedule counts).answer ≡ accepted sizes →
      (q : Pair) × (pair_of program schedule ≡ accepted q) ×
      (sizes.length ≡ length (image_of q.program q.schedule q.hypercycle)) ×
      (sizes.written ≡ length (written_of q.program q.schedule q.hypercycle))
  pub keeps : (f : Fault) → (report_of program schedule counts).answer ≡ refused f →
      (report_of program schedule counts).left ≡ counts

pub record RequestA : Type 0 where
  -- The report refuses as the compiler does, without 17; it gives L, and the length with the tail beside it.
  pub report-exactly : (program schedule counts : List ℕ) → ReportsExactly program schedule counts
  -- For a program and schedule, report L, the highest stack use of any signal (0 if there is none), and the code commands of each
  -- cycle of the hypercycle; always 240 counts, those from H on being 0. A cycle that runs returns how many commands it ran,
  -- and for a compiled image that number equals the report's for its position.
  pub one-report : (program schedule : List ℕ) → AreBytes program → (p : Program) (s : Schedule) (h : ℕ) →
      pair_of program schedule ≡ accepted (record { program = p; schedule = s; hypercycle = h }) →
      Reports program schedule p s h (image_of p s h)
  -- Whatever a cycle is lent, its count has 32 bits.
  pub count_small : (lent : List ℕ) (state samples : List ℤ) → AreBytes lent → (n : ℕ) →
      (cycle_of lent state samples).answer ≡ accepted n → n < 2 ^ 32
