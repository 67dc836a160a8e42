-- Tables that are a program's stay so when both get one entry more, and what the program reader answers. Assumes nothing.
use Rattle.std.specs.Prelude.{Result, Ok, Err}
use mathlib.Core.Path.{◌≡◌, refl, sym, ap, subst, ◌∙◌}
use mathlib.Core.List.{List, [], ◌∷◌, ◌++◌}
use Prim.Native.Nat.{ℕ, zero, suc, ◌+◌, ◌-◌, ◌*◌, ◌≤◌, ◌<◌}
use native.Mathlib.Decide.{dec_lt}
use native.Mathlib.Omega.{arith}
use lib.ListN.{length, get_or, set, length-append, length-map, length-set, get_or-append}
use lib.Seq.{sets, length-sets, get_or-append_seam, get_or-set_same, get_or-set_other}
use borrow.Author.Tests.{le-ltb}
use Rattle.model.specs.Rules.Outcome.{Outcome, fault, refuse, ◌▷◌, provided}
use Rattle.model.specs.Rules.Program.{
  Program,
  Read,
  Signal,
  Chain,
  no_signal,
  count,
  signal_at,
  empty,
  with_signal,
  with_chain,
  with_cap,
  with_row,
  body_reads,
  weight_of,
  body_lookups,
  lookups,
  declaration_here,
  parse_commands,
  parse_with,
}
use Rattle.model.specs.Rules.Table.{no_row}
use Rattle.model.specs.declared.Fault.{Fault}
use Rattle.text_program.specs.Steps.{AddsSignal, Adds, label_after, Added, Stepped}
use Rattle.text_program.specs.Tables.{
  no_chain,
  Sums,
  reads_in,
  code_in,
  ReadsOf,
  TablesOf,
  Space,
  EntryFits,
  with_entry,
  signal_added,
  chain_added,
  cap_added,
  row_added,
  Unread,
  ProgramReads,
}
use Rattle.text_program.specs.Walks.{places_of, WalkRoom, Moves}
use Rattle.text_program.specs.declared.Entry.{Entry}
use Rattle.text_program.specs.declared.Step.{Step}
use Rattle.text_program.specs.declared.Tables.{Tables}
use Rattle.text_program.specs.declared.Walk.{Walk}
use Rattle.text_program.proofs.Filled.{filled}
use Rattle.text_program.proofs.Sums.{sets-before, sets-inside, signal-old, signal-new, signal-count, sums-below, sums-more}

-- A table of a value of each element, with one element more.
one_more : {A : Type 0} (f : A → ℕ) (d : A) (xs : List A) (x : A) (table : List ℕ) (n k : ℕ) → length xs ≡ n → n < length table →
    f x ≡ k → ((y : ℕ) → y < length xs → get_or table y 0 ≡ f (get_or xs y d)) →
    (y : ℕ) → y < length (xs ++ (x ∷ [])) → get_or (set table n k) y 0 ≡ f (get_or (xs ++ (x ∷ [])) y d)
one_more f d xs x table n k e lt v h y ly =
    filled (λ i. f (get_or (xs ++ (x ∷ [])) i d)) table n k lt
    (sym v ∙ ap f (sym (get_or-append_seam xs x [] d) ∙ ap (λ i. get_or (xs ++ (x ∷ [])) i d) e))
    (λ i li. h i (omega arith) ∙ ap f (sym (get_or-append xs (x ∷ []) d i (omega arith)))) y
    (omega (arith, length-append xs (x ∷ [])))

snoc-length : {A : Type 0} (xs : List A) (x : A) (n : ℕ) → length xs ≡ n → length (xs ++ (x ∷ [])) ≡ n + 1
snoc-length xs x n e = length-append xs (x ∷ []) ∙ ap (◌+ 1) e

-- One signal more.
lookups-more : (xs : List Signal) (x : Signal) → lookups (xs ++ (x ∷ [])) ≡ lookups xs + body_lookups x.body
unfolding lookups
lookups-more [] x = omega arith
lookups-more (y ∷ ys) x = omega (arith, lookups-more ys x)

-- The program read up to `at`, its tables, a TAG's label, and what is still to be read.
pub record Reading (least : ℕ) (text reads : List ℕ) (t : Tables) (at label n to : ℕ) : Type 0 where
  pub program : Program
  pub tables : TablesOf program t
  pub reads-are : ReadsOf program reads t.firsts
  pub count-is : get_or t.firsts t.signals 0 ≡ n
  pub code_is : get_or t.codes t.signals 0 ≡ to
  pub space : Space t
  pub room : WalkRoom (length text) at n to t.lookups (length reads)
  pub left : ℕ
  pub bytes : length text ≤ at + left
  pub onward : parse_with least text ≡ parse_commands least left text at label program

one_less : (n : ℕ) → 0 < n → n ≡ suc (n - 1)
one_less n h = omega arith

module _ {least : ℕ} {text reads : List ℕ} {t : Tables} {at label n to : ℕ} (r : Reading least text reads t at label n to)
    (lt : at < length text)
    {e : Entry} {reads' : List ℕ} {w : Walk} (a : Added least text at label r.program e reads n to t.lookups reads' w) where
  abbrev p : Program
  p = r.program

  abbrev m : Moves w.at a.places a.code a.looked reads n to t.lookups reads' w
  m = a.moves

  pub same_size : length reads' ≡ length reads
  same_size = ap length m.holds ∙ simp length-sets

  room_next : WalkRoom (length text) w.at w.reads w.code w.lookups (length reads')
  room_next =
      record {
        short = r.room.short;
        table = omega (arith, r.room.table, same_size);
        few = omega (arith, r.room.few, m.counts, a.few);
        small = omega (arith, r.room.small, m.codes, a.small);
        rare = omega (arith, r.room.rare, m.looked, a.rare);
      }

  bytes_next : length text ≤ w.at + (r.left - 1)
  bytes_next = omega (arith, r.bytes, a.forward)

  onward-next : {z : Entry} {q : Program} → e ≡ z → a.program ≡ q →
      parse_with least text ≡ parse_commands least (r.left - 1) text w.at (label_after z) q
  onward-next {z} {q} f g =
      let h : 0 < r.left = omega (arith, r.bytes) in
      let k = r.left - 1 in
      r.onward ∙ ap (λ j. parse_commands least j text at label p) (one_less r.left h) ∙ a.onward k ∙
      ap (λ (y : Entry). parse_commands least k text w.at (label_after y) a.program) f ∙
      ap (parse_commands least k text w.at (label_after z)) g

  -- Where no TABLE is read.
  room-same : a.looked ≡ 0 → WalkRoom (length text) w.at w.reads w.code t.lookups (length reads')
  room-same none =
      let h = room_next in
      record {
        short = h.short;
        table = h.table;
        few = h.few;
        small = h.small;
        rare = omega (arith, h.rare, m.looked, none);
      }

  -- Where nothing is read.
  module _ (none : a.places ≡ []) (no_code : a.code ≡ 0) where
    reads_same : reads' ≡ reads
    reads_same = m.holds ∙ ap (sets reads n) none

    count_same : w.reads ≡ n
    count_same = m.counts ∙ ap (λ (l : List ℕ). n + length l) none ∙ omega arith

    code_same : w.code ≡ to
    code_same = omega (arith, m.codes, no_code)

  -- A chain.
  chain-reads : (c : Chain) → a.program ≡ with_chain p c → a.places ≡ [] → ReadsOf (with_chain p c) reads' t.firsts
  chain-reads c q none =
      let h = r.reads-are in
      record {
        sums = record { from_zero = h.sums.from_zero; rises = h.sums.rises };
        stand = λ x j lx lj.
            ap (λ (l : List ℕ). get_or l (get_or t.firsts x 0 + j) 0) (m.holds ∙ ap (sets reads n) none) ∙ h.stand x j lx lj;
        fits = omega (arith, h.fits, same_size);
      }

  chain_next : {k : ℕ} → e ≡ Entry.Chain k → Reading least text reads' (chain_added t at k) w.at 0 w.reads w.code
  unfolding Adds
  chain_next {k} q =
      let b = subst (λ (z : Entry). Adds (length text) p at label z a.program w.at a.places a.code a.looked) q
      a.adds in
      let c = b.0 in
      let h = r.tables in
      let s = r.space in
      record {
        program = with_chain p c.chain;
        tables =
            record {
              counts =
                  record {
                    signals-are = h.counts.signals-are;
                    chains-are = snoc-length p.chains c.chain t.chains h.counts.chains-are;
                    rows_are = h.counts.rows_are;
                    cap-is = h.counts.cap-is;
                  };
              places = h.places;
              periods = h.periods;
              weights = h.weights;
              labels = h.labels;
              codes = record { from_zero = h.codes.from_zero; rises = h.codes.rises };
              starts =
                  one_more (λ x. x.place) no_chain p.chains c.chain t.starts t.chains at h.counts.chains-are
                  (omega (arith, s.starts, c.room, h.counts.chains-are)) c.stands h.starts;
              lengths =
                  one_more (λ x. length x.links) no_chain p.chains c.chain t.lengths t.chains k
                  h.counts.chains-are
                  (omega (arith, s.lengths, c.room, h.counts.chains-are)) c.links-are h.lengths;
              cap = h.cap;
              offsets = h.offsets;
              lookups-are = h.lookups-are;
            };
        reads-are = chain-reads c.chain c.is b.1;
        count-is = r.count-is ∙ sym (count_same b.1 b.2);
        code_is = r.code_is ∙ sym (code_same b.1 b.2);
        space =
            record {
              places = s.places;
              periods = s.periods;
              weights = s.weights;
              labels = s.labels;
              firsts = s.firsts;
              codes = s.codes;
              starts = length-set t.starts t.chains at ∙ s.starts;
              lengths = length-set t.lengths t.chains k ∙ s.lengths;
              offsets = s.offsets;
            };
        room = room-same b.3;
        left = r.left - 1;
        bytes = bytes_next;
        onward = onward-next q c.is;
      }

  chain_fits : {k : ℕ} → e ≡ Entry.Chain k → t.chains < 16
  unfolding Adds
  chain_fits {k} q =
      let b = subst (λ (z : Entry). Adds (length text) p at label z a.program w.at a.places a.code a.looked) q
      a.adds in
      omega (arith, b.0.room, r.tables.counts.chains-are)

  -- A CAP.
  cap-next : {k : ℕ} → e ≡ Entry.Cap k → Reading least text reads' (cap_added t k) w.at 0 w.reads w.code
  unfolding Adds
  cap-next {k} q =
      let b = subst (λ (z : Entry). Adds (length text) p at label z a.program w.at a.places a.code a.looked) q
      a.adds in
      let h = r.tables in
      let s = r.space in
      let g = r.reads-are in
      record {
        program = with_cap p k;
        tables =
            record {
              counts =
                  record {
                    signals-are = h.counts.signals-are;
                    chains-are = h.counts.chains-are;
                    rows_are =
                        h.counts.rows_are;
                    cap-is = refl;
                  };
              places = h.places;
              periods = h.periods;
              weights = h.weights;
              labels = h.labels;
              codes = record { from_zero = h.codes.from_zero; rises = h.codes.rises };
              starts = h.starts;
              lengths = h.lengths;
              cap = refl;
              offsets = h.offsets;
              lookups-are = h.lookups-are;
            };
        reads-are =
            record {
              sums = record { from_zero = g.sums.from_zero; rises = g.sums.rises };
              stand = λ x j lx lj.
                  ap (λ (l : List ℕ). get_or l (get_or t.firsts x 0 + j) 0) (m.holds ∙ ap (sets reads n) b.1) ∙
                  g.stand x j lx lj;
              fits = omega (arith, g.fits, same_size);
            };
        count-is = r.count-is ∙ sym (count_same b.1 b.2);
        code_is = r.code_is ∙ sym (code_same b.1 b.2);
        space =
            record {
              places = s.places;
              periods = s.periods;
              weights = s.weights;
              labels = s.labels;
              firsts = s.firsts;
              codes = s.codes;
              starts = s.starts;
              lengths = s.lengths;
              offsets = s.offsets;
            };
        room = room-same b.3;
        left = r.left - 1;
        bytes = bytes_next;
        onward = onward-next q b.0;
      }

  -- A TAG.
  tag-next : {k : ℕ} → e ≡ Entry.Label k → Reading least text reads' t w.at k w.reads w.code
  unfolding Adds
  tag-next {k} q =
      let b = subst (λ (z : Entry). Adds (length text) p at label z a.program w.at a.places a.code a.looked) q
      a.adds in
      record {
        program = p;
        tables = r.tables;
        reads-are = subst (λ (l : List ℕ). ReadsOf p l t.firsts) (sym (reads_same b.1 b.2)) r.reads-are;
        count-is = r.count-is ∙ sym (count_same b.1 b.2);
        code_is = r.code_is ∙ sym (code_same b.1 b.2);
        space = r.space;
        room = room-same b.3;
        left = r.left - 1;
        bytes = bytes_next;
        onward = onward-next q b.0;
      }

  -- A row.
  row_next : e ≡ Entry.Row → Reading least text reads' (row_added t at) w.at 0 w.reads w.code
  unfolding Adds
  row_next q =
      let b = subst (λ (z : Entry). Adds (length text) p at label z a.program w.at a.places a.code a.looked) q
      a.adds in
      let c = b.0 in
      let h = r.tables in
      let s = r.space in
      let g = r.reads-are in
      record {
        program = with_row p c.row;
        tables =
            record {
              counts =
                  record {
                    signals-are = h.counts.signals-are;
                    chains-are = h.counts.chains-are;
                    rows_are = snoc-length p.rows c.row t.rows h.counts.rows_are;
                    cap-is = h.counts.cap-is;
                  };
              places = h.places;
              periods = h.periods;
              weights = h.weights;
              labels = h.labels;
              codes = record { from_zero = h.codes.from_zero; rises = h.codes.rises };
              starts = h.starts;
              lengths = h.lengths;
              cap = h.cap;
              offsets =
                  one_more (λ x. x.place) no_row p.rows c.row t.offsets t.rows at h.counts.rows_are
                  (omega (arith, s.offsets, c.room, h.counts.rows_are)) c.stands h.offsets;
              lookups-are = h.lookups-are;
            };
        reads-are =
            record {
              sums = record { from_zero = g.sums.from_zero; rises = g.sums.rises };
              stand = λ x j lx lj.
                  ap (λ (l : List ℕ). get_or l (get_or t.firsts x 0 + j) 0) (m.holds ∙ ap (sets reads n) b.1) ∙
                  g.stand x j lx lj;
              fits = omega (arith, g.fits, same_size);
            };
        count-is = r.count-is ∙ sym (count_same b.1 b.2);
        code_is = r.code_is ∙ sym (code_same b.1 b.2);
        space =
            record {
              places = s.places;
              periods = s.periods;
              weights = s.weights;
              labels = s.labels;
              firsts = s.firsts;
              codes = s.codes;
              starts = s.starts;
              lengths = s.lengths;
              offsets = length-set t.offsets t.rows at ∙ s.offsets;
            };
        room = room-same b.3;
        left = r.left - 1;
        bytes = bytes_next;
        onward = onward-next q c.is;
      }

  row_fits : e ≡ Entry.Row → t.rows < 32
  unfolding Adds
  row_fits q =
      let b = subst (λ (z : Entry). Adds (length text) p at label z a.program w.at a.places a.code a.looked) q
      a.adds in
      omega (arith, b.0.room, r.tables.counts.rows_are)

  -- A signal.
  module _ {period weight : ℕ} (f : e ≡ Entry.Signal period weight)
      (b : AddsSignal (length text) p at label period weight a.program w.at a.places a.code a.looked) where
    abbrev σ : Signal
    σ = b.signal

    places-length : length a.places ≡ length (body_reads σ.body)
    places-length = ap length (sym b.reads-are) ∙ length-map (body_reads σ.body) (λ (ρ : Read). ρ.place)

    firsts-next : Sums reads_in (with_signal p σ) (set t.firsts (t.signals + 1) w.reads)
    firsts-next =
        sums-more reads_in r.reads-are.sums σ t.signals n w.reads r.tables.counts.signals-are
        (omega (arith, r.space.firsts, b.room, r.tables.counts.signals-are)) r.count-is
        (omega (arith, m.counts, places-length))

    codes-next : Sums code_in (with_signal p σ) (set t.codes (t.signals + 1) w.code)
    codes-next =
        sums-more code_in r.tables.codes σ t.signals to w.code r.tables.counts.signals-are
        (omega (arith, r.space.codes, b.room, r.tables.counts.signals-are)) r.code_is
        (omega (arith, m.codes, b.code_is t.signals))

    abbrev firsts' : List ℕ
    firsts' = set t.firsts (t.signals + 1) w.reads

    stand-next : (x j : ℕ) → x < count (with_signal p σ) → j < length (body_reads (signal_at (with_signal p σ) x).body) →
        get_or reads' (get_or firsts' x 0 + j) 0 ≡ get_or (places_of (body_reads (signal_at (with_signal p σ) x).body)) j 0
    stand-next x j lx lj = go (dec_lt x (count p)) lj
      where
        old : (y : ℕ) → y < t.signals + 1 → get_or firsts' y 0 ≡ get_or t.firsts y 0
        old y ly = get_or-set_other t.firsts (t.signals + 1) y w.reads 0 (λ z. omega arith)

        go : Dec (x < count p) → j < length (body_reads (signal_at (with_signal p σ) x).body) →
            get_or reads' (get_or firsts' x 0 + j) 0 ≡ get_or (places_of (body_reads (signal_at (with_signal p σ) x).body)) j 0
        go (yes q) lj =
            let z = signal-old p σ x q in
            let lj' : j < length (body_reads (signal_at p x).body) = rw z at lj in
            let below = sums-below reads_in r.reads-are.sums x (count p) q (omega arith) in
            let c = r.tables.counts.signals-are in
            ap (λ (l : List ℕ). get_or l (get_or firsts' x 0 + j) 0) m.holds ∙
            rw (old x (omega arith), z)
            (sets-before reads n a.places (get_or t.firsts x 0 + j)
            (omega (arith, below, rw (sym c) at r.count-is)) ∙
            r.reads-are.stand x j q lj')
        go (no q) lj =
            let c = r.tables.counts.signals-are in
            let z : x ≡ count p = omega (arith, signal-count p σ) in
            let v : signal_at (with_signal p σ) x ≡ σ = ap (signal_at (with_signal p σ)) z ∙ signal-new p σ in
            let lj' : j < length (body_reads σ.body) = rw v at lj in
            let u : get_or t.firsts x 0 ≡ n = ap (λ (y : ℕ). get_or t.firsts y 0) (z ∙ c) ∙ r.count-is in
            ap (λ (l : List ℕ). get_or l (get_or firsts' x 0 + j) 0) m.holds ∙
            rw (old x (omega arith), v, u, b.reads-are)
            (sets-inside reads n a.places j (omega (arith, places-length))
            (omega (arith, same_size, room_next.few, room_next.table, b.inside, m.counts)))

    signal-made : Reading least text reads' (signal_added t at label period weight w.reads w.code w.lookups) w.at 0
        w.reads w.code
    signal-made =
        let h = r.tables in
        let s = r.space in
        let c = h.counts.signals-are in
        let in64 : t.signals < 64 = omega (arith, b.room) in
        record {
          program = with_signal p σ;
          tables =
              record {
                counts =
                    record {
                      signals-are = snoc-length p.signals σ t.signals c;
                      chains-are = h.counts.chains-are;
                      rows_are = h.counts.rows_are;
                      cap-is = h.counts.cap-is;
                    };
                places =
                    one_more (λ x. x.place) no_signal p.signals σ t.places t.signals at c (omega (arith, s.places))
                    b.stands
                    h.places;
                periods =
                    one_more (λ x. x.period) no_signal p.signals σ t.periods t.signals period c
                    (omega (arith, s.periods))
                    b.period-is h.periods;
                weights =
                    one_more (λ x. weight_of x.body) no_signal p.signals σ t.weights t.signals weight c
                    (omega (arith, s.weights)) b.weighs h.weights;
                labels =
                    one_more (λ x. x.label) no_signal p.signals σ t.labels t.signals label c (omega (arith, s.labels))
                    b.labelled h.labels;
                codes = codes-next;
                starts = h.starts;
                lengths = h.lengths;
                cap = h.cap;
                offsets = h.offsets;
                lookups-are = omega (arith, m.looked, h.lookups-are, b.lookups-are, lookups-more p.signals σ);
              };
          reads-are =
              record {
                sums = firsts-next;
                stand = stand-next;
                fits =
                    rw (signal-count p σ, c, get_or-set_same t.firsts (t.signals + 1) w.reads 0 (omega (arith, s.firsts)))
                    (omega (arith, room_next.few, room_next.table, b.inside));
              };
          count-is = get_or-set_same t.firsts (t.signals + 1) w.reads 0 (omega (arith, s.firsts));
          code_is = get_or-set_same t.codes (t.signals + 1) w.code 0 (omega (arith, s.codes));
          space =
              record {
                places = length-set t.places t.signals at ∙ s.places;
                periods = length-set t.periods t.signals period ∙ s.periods;
                weights = length-set t.weights t.signals weight ∙ s.weights;
                labels = length-set t.labels t.signals label ∙ s.labels;
                firsts = length-set t.firsts (t.signals + 1) w.reads ∙ s.firsts;
                codes = length-set t.codes (t.signals + 1) w.code ∙ s.codes;
                starts = s.starts;
                lengths = s.lengths;
                offsets = s.offsets;
              };
          room = room_next;
          left = r.left - 1;
          bytes = bytes_next;
          onward = onward-next f b.is;
        }

  signal-added : {period weight : ℕ} → e ≡ Entry.Signal period weight →
      AddsSignal (length text) p at label period weight a.program w.at a.places a.code a.looked
  unfolding Adds
  signal-added q = subst (λ (z : Entry). Adds (length text) p at label z a.program w.at a.places a.code a.looked)
      q a.adds

  signal-next : {period weight : ℕ} → e ≡ Entry.Signal period weight →
      Reading least text reads' (signal_added t at label period weight w.reads w.code w.lookups) w.at 0 w.reads
      w.code
  signal-next q = signal-made q (signal-added q)

  signal-fits : {period weight : ℕ} → e ≡ Entry.Signal period weight → (t.signals < 64) × (w.reads < 65536) × (w.code < 65536)
  signal-fits q =
      let b = signal-added q in (
        omega (arith, b.room, r.tables.counts.signals-are),
        omega (arith, room_next.few, room_next.short, b.inside),
        omega (arith, room_next.small, room_next.short, b.inside),
      )

  -- Whatever is added: it fits, and the tables are those of the program that the definition goes on with.
  pub entry-fits : EntryFits t e w
  unfolding EntryFits
  entry-fits = go e refl
    where
      go : (z : Entry) → e ≡ z → EntryFits t z w
      go (Entry.Signal period weight) q = signal-fits q
      go (Entry.Chain k) q = chain_fits q
      go (Entry.Cap k) q = tt
      go (Entry.Label given) q = tt
      go Entry.Row q = row_fits q

  pub entry-next : Reading least text reads' (with_entry t at label e w) w.at (label_after e) w.reads w.code
  entry-next = go e refl
    where
      go : (z : Entry) → e ≡ z → Reading least text reads' (with_entry t at label z w) w.at (label_after z) w.reads w.code
      go (Entry.Signal period weight) q = signal-next q
      go (Entry.Chain k) q = chain_next q
      go (Entry.Cap k) q = cap-next q
      go (Entry.Label given) q = tag-next q
      go Entry.Row q = row_next q

  pub lookups-next : w.lookups ≡ (with_entry t at label e w).lookups
  unfolding Adds
  lookups-next = go e refl
    where
      added : {z : Entry} → e ≡ z → Adds (length text) p at label z a.program w.at a.places a.code a.looked
      added q = subst (λ (y : Entry). Adds (length text) p at label y a.program w.at a.places a.code a.looked) q a.adds

      same : a.looked ≡ 0 → w.lookups ≡ t.lookups
      same none = omega (arith, m.looked, none)

      go : (z : Entry) → e ≡ z → w.lookups ≡ (with_entry t at label z w).lookups
      go (Entry.Signal period weight) q = refl
      go (Entry.Chain k) q = same (added q).3
      go (Entry.Cap k) q = same (added q).3
      go (Entry.Label given) q = same (added q).3
      go Entry.Row q = same (added q).3

-- A step that adds nothing is the answer: END, that the tables are the program's; a refusal, itself.
module _ {least : ℕ} {text reads : List ℕ} {t : Tables} {at label n to : ℕ} (r : Reading least text reads t at label n to)
    (lt : at < length text) (reads' : List ℕ) where
  stops_as : (o : Outcome Program) →
      ((left : ℕ) → parse_commands least (suc left) text at label r.program ≡ o) → parse_with least text ≡ o
  stops_as o s =
      let h : 0 < r.left = omega (arith, r.bytes) in
      r.onward ∙ ap (λ d. parse_commands least d text at label r.program) (one_less r.left h) ∙ s (r.left - 1)

  pub program-refused : (f : Fault) →
      Stepped least text at label r.program reads n to t.lookups reads' (Err f) → (q : Result Tables Fault) → q ≡ Err f →
      ProgramReads (parse_with least text) reads' q
  unfolding Stepped ProgramReads
  program-refused f s q e = rw (stops_as _ s) e

  pub program-done : Stepped least text at label r.program reads n to t.lookups reads' (Ok Step.End) →
      ProgramReads (parse_with least text) reads' (Ok t)
  unfolding Stepped ProgramReads
  program-done s = rw (stops_as _ s.0) (t, refl, r.tables, rw s.1 r.reads-are)

-- So is the end of the text.
commands-past : (least left : ℕ) (text : List ℕ) (at label : ℕ) (p : Program) → length text ≤ at →
    parse_commands least left text at label p ≡ refuse 2 (length text)
unfolding parse_commands declaration_here provided ◌▷◌
commands-past least zero text at label p h = refl
commands-past least (suc left) text at label p h = rw (le-ltb at (length text) h)

pub program-ends : {least : ℕ} {text reads : List ℕ} {t : Tables} {at label n to : ℕ}
    (r : Reading least text reads t at label n to) →
    length text ≤ at → (reads' : List ℕ) (q : Result Tables Fault) → q ≡ Err (fault 2 (length text)) →
    ProgramReads (parse_with least text) reads' q
unfolding ProgramReads
program-ends {least} {text} {at = at} {label = label} r h reads' q e =
    rw (r.onward ∙ commands-past least r.left text at label r.program h) e

-- Nothing is read at first.
pub starts-empty : (least : ℕ) (text reads : List ℕ) (t : Tables) → length text ≤ 8192 → length text ≤ 2 * length reads →
    Unread t → Reading least text reads t 0 0 0 0
unfolding parse_with lookups
starts-empty least text reads t short table u =
    record {
      program = empty;
      tables =
          record {
            counts = record {
              signals-are = sym u.no-signals;
              chains-are = sym u.no-chains;
              rows_are = sym u.no_rows;
              cap-is = rw u.no-cap;
            };
            places = λ x lt. absurd (omega arith);
            periods = λ x lt. absurd (omega arith);
            weights = λ x lt. absurd (omega arith);
            labels = λ x lt. absurd (omega arith);
            codes = record { from_zero = u.code; rises = λ x lt. absurd (omega arith) };
            starts = λ x lt. absurd (omega arith);
            lengths = λ x lt. absurd (omega arith);
            cap = rw u.no-cap;
            offsets = λ n lt. absurd (omega arith);
            lookups-are = u.no-lookups;
          };
      reads-are =
          record {
            sums = record { from_zero = u.first; rises = λ x lt. absurd (omega arith) };
            stand = λ x j lx lj. absurd (omega arith);
            fits = omega (arith, u.first);
          };
      count-is = rw u.no-signals u.first;
      code_is = rw u.no-signals u.code;
      space = u.space;
      room = record { short = short; table = table; few = omega arith; small = omega arith; rare = omega (arith, u.no-lookups) };
      left = length text;
      bytes = omega arith;
      onward = refl;
    }
