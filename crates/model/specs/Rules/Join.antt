-- Join: parts that are compiled alone, in one lent buffer, and links between them, to one image.
use Rattle.std.specs.Prelude.{Option, Some, None, Result, Ok, Err, ℕ, zero, suc, ◌+◌, ◌*◌, ◌/◌, Bool, true, false, cond, not, ◌&&◌, List, [], ◌∷◌, ◌++◌, leb, ltb, eqb, length, drop, get_or}
use Rattle.model.specs.Rules.Compile.{Pair, pair_of}
use Rattle.model.specs.Rules.Image.{written_of}
use Rattle.model.specs.Rules.Load.{loaded}
use Rattle.model.specs.Rules.Machine.{Effect, Job, effect, stretch}
use Rattle.model.specs.Rules.Outcome.{Outcome, accepted, refused, refuse, fault, yielded_of, ◌▷◌, provided, lowest}
use Rattle.model.specs.Rules.Parts.{Part, PartLink, part_at, tabled_parts, wire_of, wire_read, joined_pair}
use Rattle.model.specs.Rules.Program.{is_input, count, signal_at}
use Rattle.model.specs.Rules.Rates.{hypercycle}
use Rattle.model.specs.Rules.Reads.{is_met}
use Rattle.model.specs.Rules.Search.{first_below, all_below, table, join_from, sum}
use Rattle.model.specs.Rules.Word.{byte_at}
use Rattle.model.specs.declared.Fault.{Fault}
use Rattle.model.specs.declared.JoinFault.{JoinFault}

-- Where the two texts of a part lie in the lent buffer: start and length of each.
pub record PartTexts : Type 0 where
  pub program : ℕ
  pub program_length : ℕ
  pub schedule : ℕ
  pub schedule_length : ℕ

-- A list of parts as numbers: four a part.
abbrev pub parts_in : List ℕ → ℕ
parts_in numbers = length numbers / 4

abbrev pub texts_at : List ℕ → ℕ → PartTexts
texts_at numbers k =
    record {
      program = get_or numbers (4 * k) 0;
      program_length = get_or numbers (4 * k + 1) 0;
      schedule = get_or numbers (4 * k + 2) 0;
      schedule_length = get_or numbers (4 * k + 3) 0;
    }

-- The bytes of all program texts, by the lengths as given.
unfoldable pub program_total : List ℕ → ℕ
program_total numbers = sum (table (parts_in numbers) (λ k. (texts_at numbers k).program_length))

module _ (buffer : List ℕ) where
  -- A text of this start and length lies in the lent buffer.
  abbrev pub is_lent : ℕ → ℕ → Bool
  is_lent start size = leb (start + size) (length buffer)

  abbrev pub are_lent : PartTexts → Bool
  are_lent t = is_lent t.program t.program_length && is_lent t.schedule t.schedule_length

  -- 1 the program texts together over 8,192 bytes, 4 a ninth part, 27 a text that leaves its buffer.
  unfoldable pub lent : List ℕ → Outcome (Unit {0})
  lent numbers =
      provided (leb (program_total numbers) 8192) 1 0 ▷ λ _.
      provided (leb (parts_in numbers) 8) 4 0 ▷ λ _.
      provided (all_below (parts_in numbers) (λ k. are_lent (texts_at numbers k))) 27 0

  abbrev pub program_text : PartTexts → List ℕ
  program_text t = stretch buffer t.program (t.program + t.program_length)

  abbrev pub schedule_text : PartTexts → List ℕ
  schedule_text t = stretch buffer t.schedule (t.schedule + t.schedule_length)

  -- What the compiler says of a part alone.
  unfoldable pub part_pair : PartTexts → Outcome Pair
  part_pair t = pair_of (program_text t) (schedule_text t)

  -- The n parts from part k on, each checked alone, in order.
  unfoldable pub parts_from : List ℕ → ℕ → ℕ → Outcome (List Part)
  parts_from numbers k zero = accepted []
  parts_from numbers k (suc n) =
      part_pair (texts_at numbers k) ▷ λ q.
      parts_from numbers (suc k) n ▷ λ parts.
      accepted (record { program = q.program; schedule = q.schedule } ∷ parts)

abbrev pub is_refused : {A : Type 0} → Outcome A → Bool
is_refused (accepted a) = false
is_refused (refused f) = true

-- Link i of a list of links, four bytes each: part, IN, part, signal.
abbrev pub link_at : List ℕ → ℕ → PartLink
link_at links i =
    record {
      place = i;
      input_part = byte_at links (4 * i);
      input = byte_at links (4 * i + 1);
      signal_part = byte_at links (4 * i + 2);
      signal = byte_at links (4 * i + 3);
    }

-- How many links there are, one that is cut included.
abbrev pub links_in : List ℕ → ℕ
links_in links = (length links + 3) / 4

abbrev pub links_of : List ℕ → List PartLink
links_of links = table (links_in links) (link_at links)

-- Two links name the same IN.
abbrev pub same_input : PartLink → PartLink → Bool
same_input l m = eqb l.input_part m.input_part && eqb l.input m.input

module _ (parts : List Part) where
  -- A part has a signal of this number.
  abbrev pub is_declared : ℕ → ℕ → Bool
  is_declared k x = ltb k (length parts) && ltb x (count (part_at parts k).program)

  -- A link names an IN of one part and a signal of another, of equal periods.
  unfoldable pub is_named : PartLink → Bool
  is_named l =
      let reader = signal_at (part_at parts l.input_part).program l.input in
      let source = signal_at (part_at parts l.signal_part).program l.signal in
      is_declared l.input_part l.input && is_input reader.body && is_declared l.signal_part l.signal &&
      not (eqb l.input_part l.signal_part) && eqb reader.period source.period

  -- Link i is whole, names what it should, and no link before it has its IN.
  unfoldable pub is_right : List ℕ → ℕ → Bool
  is_right links i =
      leb (4 * i + 4) (length links) && is_named (link_at links i) &&
      all_below i (λ j. not (same_input (link_at links j) (link_at links i)))

  abbrev pub named_of : Option ℕ → Outcome (Unit {0})
  named_of (Some i) = refuse 31 i
  named_of None = accepted tt

  -- 31 at the lowest wrong link.
  unfoldable pub named : List ℕ → Outcome (Unit {0})
  named links = named_of (first_below (links_in links) (λ i. not (is_right links i)))

  -- 31 rows in two parts.
  unfoldable pub one_table : Outcome (Unit {0})
  one_table = provided (leb (tabled_parts parts) 1) 31 0

-- The joined checks.
module _ (parts : List Part) (links : List PartLink) where
  -- 14 at the lowest unmet link's number.
  unfoldable pub links_met : Outcome (Unit {0})
  links_met =
      let q = joined_pair parts links in
      lowest
      (join_from 0
      (λ i l. cond (is_met q.program q.schedule (wire_of parts l).input (wire_read (wire_of parts l))) []
      (fault 14 l.place ∷ []))
      links)

  -- 4 for signals and chains, 9, 14, 15. There is no joined 16: every chain keeps its latency (`joined-timely`).
  unfoldable pub joined_verdict : Outcome Pair
  joined_verdict =
      let q = joined_pair parts links in
      provided (leb (count q.program) 64 && leb (length q.program.chains) 16) 4 0 ▷ λ _.
      hypercycle q.program ▷ λ h.
      links_met ▷ λ _.
      loaded q.program q.schedule h ▷ λ _.
      accepted (record { program = q.program; schedule = q.schedule; hypercycle = h })

-- All checks, in the order stated: the lent texts; each part alone; the links; the rows; the parts joined.
unfoldable pub joined_pair_of : List ℕ → List ℕ → List ℕ → Outcome Pair
joined_pair_of buffer numbers links =
    lent buffer numbers ▷ λ _.  -- 1, 4, 27
    parts_from buffer numbers 0 (parts_in numbers) ▷ λ parts.  -- 1 to 16, 29 and 30 of each part
    named parts links ▷ λ _.  -- 31 at a link
    one_table parts ▷ λ _.  -- 31 for rows
    joined_verdict parts (links_of links)  -- 4, 9, 14, 15

-- The part that a refusal names: the first that is refused alone, where the texts are lent.
abbrev pub named_after : Outcome (Unit {0}) → Option ℕ → Option ℕ
named_after (accepted u) f = f
named_after (refused f) k = None

unfoldable pub part_named : List ℕ → List ℕ → Option ℕ
part_named buffer numbers =
    named_after (lent buffer numbers)
    (first_below (parts_in numbers) (λ k. is_refused (part_pair buffer (texts_at numbers k))))

-- An answer without the part that its refusal names, and that part.
abbrev pub without_part : {A : Type 0} → Result A JoinFault → Result A Fault
without_part (Ok a) = Ok a
without_part (Err e) = Err e.fault

abbrev pub part_in : {A : Type 0} → Result A JoinFault → Option ℕ
part_in (Ok a) = None
part_in (Err e) = e.part

-- What the answer of join stands for: L + 4N, or the refusal's number and place.
abbrev pub joined_of : Result ℕ JoinFault → Outcome ℕ
joined_of r = yielded_of (without_part r)

-- The job of join: 17 where the image's buffer is shorter than L + 4N; bytes past that stay.
abbrev pub join_job : List ℕ → List ℕ → List ℕ → List ℕ → Outcome (Job ℕ ℕ)
join_job buffer numbers links image =
    joined_pair_of buffer numbers links ▷ λ q.
    let written = written_of q.program q.schedule q.hypercycle in
    provided (leb (length written) (length image)) 17 (length written) ▷ λ _.
    accepted (record { yields = length written; leaves = written ++ drop (length written) image })

unfoldable pub join_of : List ℕ → List ℕ → List ℕ → List ℕ → Effect ℕ ℕ
join_of buffer numbers links image = effect image (join_job buffer numbers links image)
