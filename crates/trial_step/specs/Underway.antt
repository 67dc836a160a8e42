-- A trial under way: what is still to be printed, and what a step takes of it.
use Rattle.std.specs.Prelude.{Option, Some, None, ℕ, zero, suc, ◌+◌, ◌-◌, ◌≤◌, ◌<◌, ◌^◌, Bool, false, true, cond, List, [], ◌∷◌, ◌++◌, ◌≡◌, leb, ltb, ℤ, length, take, drop, set, replicate}
use Rattle.std.proofs.lemmas.List.Edits.{sets}
use Rattle.model.specs.Says.Calls.{Call, cycle}
use Rattle.model.specs.Rules.Decimal.{line_of}
use Rattle.model.specs.Rules.Image.{joined}
use Rattle.model.specs.Rules.Machine.{cycle_words}
use Rattle.model.specs.Rules.Script.{script_command_at, script_at, calls_from}
use Rattle.model.specs.Rules.Trial.{signals_of, lines_from}
use Rattle.model.specs.Rules.Width.{in_script}
use Rattle.model.specs.declared.ScriptCommand.{ScriptCommand}
use Rattle.machine.specs.Runnable.{Runnable}
use Rattle.decimal.specs.PutBytes.{PutBytes}
use Rattle.trial_step.specs.declared.Block.{Block}
use Rattle.trial_step.specs.declared.Progress.{Progress}

-- Where the script goes on after the RUN that makes the next cycle, and how many more that RUN makes; none is left.
abbrev pub Sought : Type 0
Sought = Option (ℕ × ℕ)

-- The length of the line written and the progress after it; none at the end of the script.
abbrev pub Next : Type 0
Next = Option (ℕ × Progress)

-- The calls that a script still makes: the rest of the present RUN, and what follows it.
unfoldable pub calls_left : List ℕ → ℕ → ℕ → List ℤ → List Call
calls_left text at left samples = replicate left (cycle samples) ++ calls_from samples (script_at text at).actions

-- The lines that are still to be printed.
unfoldable pub lines_left : List ℕ → List ℕ → Progress → List ℤ → List ℤ → List (List ℕ)
lines_left image text p samples state = lines_from image p.line state (calls_left text p.at p.left samples)

-- Nothing is done yet.
abbrev pub at_start : Progress
at_start = record { at = 0; left = 0; line = 0 }

-- A trial under way: no cycle is refused, and the numbers of the lines left fit 32 bits.
pub record Underway (image text : List ℕ) (p : Progress) (samples state : List ℤ) : Type 0 where
  pub runnable : Runnable image state samples
  pub few : p.line + length (calls_left text p.at p.left samples) < 2 ^ 32

-- The next cycle, sought from an offset on: SETs on the way alter the samples. A command takes a byte at least, so that `left` of
-- them are enough.
pub record Seeking : Type 0 where
  pub sought : Sought
  pub samples : List ℤ

abbrev pub nothing_sought : List ℤ → Seeking
nothing_sought samples = record { sought = None; samples = samples }

abbrev pub cycle_sought : ℕ → ℕ → List ℤ → Seeking
cycle_sought at left samples = record { sought = Some (at, left); samples = samples }

-- One command at `at`; `go` seeks on.
unfoldable pub seek_by : (ℕ → List ℤ → Seeking) → ℕ → List ℤ → ScriptCommand → Seeking
seek_by go at samples ScriptCommand.EndsEarly = nothing_sought samples
seek_by go at samples ScriptCommand.Unknown = nothing_sought samples
seek_by go at samples ScriptCommand.End = nothing_sought samples
seek_by go at samples (ScriptCommand.Set x w) = go (at + in_script 0x70) (set samples x w)
seek_by go at samples (ScriptCommand.Run zero) = go (at + in_script 0x71) samples
seek_by go at samples (ScriptCommand.Run (suc n)) = cycle_sought (at + in_script 0x71) n samples

unfoldable pub seek_from : ℕ → List ℕ → ℕ → List ℤ → Seeking
seek_from zero text at samples = nothing_sought samples
seek_from (suc left) text at samples = seek_by (λ a k. seek_from left text a k) at samples (script_command_at text at)

unfoldable pub seek_of : List ℕ → ℕ → List ℤ → Seeking
seek_of text at samples = seek_from (length text) text at samples

-- The cycle of the next line: within a RUN the next one, with the samples as they are; else the one sought.
unfoldable pub next_cycle : List ℕ → Progress → List ℤ → Seeking
next_cycle text p samples =
    cond (ltb 0 p.left) (cycle_sought p.at (p.left - 1) samples) (seek_of text p.at samples)

-- What a step answers and leaves: the cycle runs and its line stands at the start of the buffer, the rest of which stays; or none
-- is left, and state and buffer stay.
pub record Step : Type 0 where
  pub next : Next
  pub samples : List ℤ
  pub state : List ℤ
  pub line : List ℕ

abbrev pub step_to : List ℕ → Progress → List ℤ → List ℕ → Seeking → Step
step_to image p state line seeking = step_with seeking.sought seeking.samples
  where
    step_with : Sought → List ℤ → Step
    step_with (Some (at, left)) samples =
        let after = cycle_words image state samples in
        let bytes = line_of p.line (signals_of image after) in
        record {
          next = Some (length bytes, record { at = at; left = left; line = p.line + 1 });
          samples = samples;
          state = after;
          line = sets line 0 bytes;
        }
    step_with None samples = record { next = None; samples = samples; state = state; line = line }

unfoldable pub step_of : List ℕ → List ℕ → Progress → List ℤ → List ℤ → List ℕ → Step
step_of image text p samples state line = step_to image p state line (next_cycle text p samples)

-- A step has answered and left this.
pub record Stepped (step : Step) (samples' state' : List ℤ) (line' : List ℕ) (r : Next) : Type 0 where
  pub next-is : r ≡ step.next
  pub samples-is : samples' ≡ step.samples
  pub state-is : state' ≡ step.state
  pub line-is : line' ≡ step.line

-- What filling a block answers and leaves: lines one after another from its start, as long as there is space for the longest; all
-- else of it stays.
pub record Fill : Type 0 where
  pub answer : Block
  pub samples : List ℤ
  pub state : List ℤ
  pub block : List ℕ

abbrev pub fill_to : Progress → ℕ → Bool → List ℤ → List ℤ → List ℕ → Fill
fill_to p size ended samples state block =
    record { answer = record { size = size; progress = p; ended = ended }; samples = samples; state = state; block = block }

-- After a step from `size` on; `go` fills on.
unfoldable pub fill_next : (Progress → List ℤ → List ℤ → List ℕ → ℕ → Fill) → Progress → List ℕ → ℕ → Step → Next → Fill
fill_next go p block size step (Some (n, next)) =
    go next step.samples step.state (take size block ++ step.line) (size + n)
fill_next go p block size step None =
    fill_to p size true step.samples step.state (take size block ++ step.line)

-- A line takes a byte at least, so that as many as the block has bytes are enough.
unfoldable pub fill_from : ℕ → List ℕ → List ℕ → Progress → List ℤ → List ℤ → List ℕ → ℕ → Fill
fill_from zero image text p samples state block size = fill_to p size false samples state block
fill_from (suc left) image text p samples state block size =
    let step = step_of image text p samples state (drop size block) in
    elim (leb 1024 (length block - size)) [
      | true ↦ fill_next (λ q s t b n. fill_from left image text q s t b n) p block size step step.next
      | false ↦ fill_to p size false samples state block
    ]

unfoldable pub block_of : List ℕ → List ℕ → Progress → List ℤ → List ℤ → List ℕ → Fill
block_of image text p samples state block = fill_from (suc (length block)) image text p samples state block 0

-- A block has been filled so.
pub record FilledTo (fill : Fill) (samples' state' : List ℤ) (block' : List ℕ) (r : Block) : Type 0 where
  pub answer-is : r ≡ fill.answer
  pub samples-is : samples' ≡ fill.samples
  pub state-is : state' ≡ fill.state
  pub block-is : block' ≡ fill.block

-- The calls from where the next cycle was sought.
abbrev pub sought_calls : List ℕ → List ℤ → Sought → List Call
sought_calls text samples (Some (at, left)) = cycle samples ∷ calls_left text at left samples
sought_calls text samples None = []

-- A cycle has run, and the line of the state that it left stands at the start of the buffer.
pub record Printed (image : List ℕ) (number : ℕ) (samples state : List ℤ) (line : List ℕ) (state' : List ℤ) (line' : List ℕ)
    (size : ℕ) : Type 0 where
  pub state-is : state' ≡ cycle_words image state samples
  pub line-is : PutBytes line 0 (line_of number (signals_of image state')) line' size
  pub runnable : Runnable image state' samples

-- A step has printed the first of the lines left.
pub record Lined (image text : List ℕ) (p : Progress) (samples state : List ℤ) (samples' state' : List ℤ) (line' : List ℕ)
    (size : ℕ) (next : Progress) : Type 0 where
  pub next-line : lines_left image text p samples state ≡ take size line' ∷ lines_left image text next samples' state'
  pub fits : size ≤ length line'
  pub number : next.line ≡ p.line + 1
  pub underway : Underway image text next samples' state'

-- What a step does: it prints a line, or none is left.
unfoldable pub StepsOn : List ℕ → List ℕ → Progress → List ℤ → List ℤ → List ℤ → List ℤ → List ℕ → Next → Type 0
StepsOn image text p samples state samples' state' line' (Some (size, next)) =
    Lined image text p samples state samples' state' line' size next
StepsOn image text p samples state samples' state' line' None = lines_left image text p samples state ≡ []

-- A block holds the first of what is left: some lines, or all that are left.
pub record Filled (image text : List ℕ) (p : Progress) (samples state : List ℤ) (samples' state' : List ℤ) (block' : List ℕ)
    (r : Block) : Type 0 where
  pub fits : r.size ≤ length block'
  pub more : r.ended ≡ false → joined (lines_left image text p samples state) ≡
      take r.size block' ++ joined (lines_left image text r.progress samples' state')
  pub underway : r.ended ≡ false → Underway image text r.progress samples' state'
  pub fewer : r.ended ≡ false →
      length (lines_left image text r.progress samples' state') < length (lines_left image text p samples state)
  pub last : r.ended ≡ true → joined (lines_left image text p samples state) ≡ take r.size block'
