-- Requests h and i. Assumes nothing.
use Prim.Native.Nat.{◌+◌}
use mathlib.Core.Path.{refl}
use Rattle.board.specs.Board.{place_words, load_of, turn_of}
use Rattle.board.specs.Events.{load, after_event, own_cycles}
use Rattle.board.specs.Record.{board_of, turn_done}
use Rattle.model.specs.Rules.Machine.{stretch}
use Rattle.promises.specs.Boards.{RequestH, RequestI, BoardRecord}
use Rattle.board.proofs.Promises.{place-cycles}
use Rattle.board.proofs.Promises as Board
use Rattle.board.proofs.Lists.{four}
use Rattle.board.proofs.Lists as BoardLists
use Rattle.board.proofs.Held as BoardWords
use Rattle.promises.proofs.BoardCourses.{answers-alone}
use Rattle.promises.proofs.BoardExact.{board-calls}
use Rattle.promises.proofs.BoardLent.{load-leaves, turn-leaves}
use Rattle.promises.proofs.ForEver.{for-ever}
use Rattle.promises.proofs.Places.{place-holds}

pub request-h : RequestH
request-h =
    record {
      calls-exactly = board-calls;
      numbers-taken-by-fourth = BoardLists.numbers-taken-by-fourth;
      numbers-place-alone = BoardLists.numbers-place-alone;
      numbers-run-unless-changed = BoardLists.numbers-run-unless-changed;
      from-load-there = BoardLists.from-load-there;
      of-place = λ program schedule bytes p q h e.
          let hold = (for-ever.of_pair program schedule bytes p q h e).calls-hold in
          record {
            place-streams = λ s k start size n four a tail bears es free inputs X supplied satisfied.
                place-holds p q h s k start size n four a es free X
                ((hold tail (stretch s.images start (start + size)) bears (place_words k s.state)
                (place-cycles s k start size n four a es free).0 (own_cycles k (after_event s (load k start size)) es)
                ).holds inputs X supplied satisfied);
            numbers-place-streams = λ {image = image} {old = old} {cs = cs} f tail bears.
                let a = BoardLists.numbers-place-alone f in
                rw (← (answers-alone f), a.words_are) (hold tail image bears old a.resets cs);
          };
      lent-load = λ numbers images k start size. (
        record {
          makes = λ words.
              let r = load_of (board_of numbers) images words k start size in record { answer = r.answer; left = r.left };
          keeps = load-leaves numbers images k start size;
        },
        λ words. refl,
      );
      lent-turn = λ numbers images samples. (
        record {
          makes = λ words.
              let r = turn_of (board_of numbers) images words samples in record { answer = turn_done r.answer; left = r.left };
          keeps = turn-leaves numbers images samples;
        },
        λ words. refl,
      );
    }

pub request-i : RequestI
request-i = record { numbers-count-tells = BoardLists.numbers-count-tells }

pub board-record : BoardRecord
board-record =
    record {
      new-held = BoardWords.new-held;
      load-held = BoardWords.load-held;
      mark-held = BoardWords.mark-held;
      turn-held = BoardWords.turn-held;
      board-keeps = Board.board-keeps;
      idle-keeps = Board.idle-keeps;
      others-untouched = Board.others-untouched;
      taken-by-fourth = Board.taken-by-fourth;
      place-steps = Board.place-steps;
      place-alone = Board.place-alone;
      place-cycles = Board.place-cycles;
      run-faults = Board.run-faults;
      runs-unless-changed = Board.runs-unless-changed;
      count-tells = Board.count-tells;
    }
