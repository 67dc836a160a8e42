-- Request k. Assumes nothing.
use Prim.Native.Nat.{◌+◌}
use mathlib.Core.Path.{refl}
use native.Mathlib.Omega.{arith}
use Rattle.board.specs.Board.{place_words}
use Rattle.board.specs.Events.{load, after_event, own_cycles}
use Rattle.model.specs.Rules.Join.{join_job, join_of}
use Rattle.model.specs.Rules.Machine.{stretch}
use Rattle.promises.specs.Joins.{RequestK}
use Rattle.theorems_calls.specs.Exactness.{size_of}
use Rattle.board.proofs.Promises.{place-cycles}
use Rattle.board.proofs.Lists.{numbers-place-alone}
use Rattle.promises.proofs.BoardCourses.{answers-alone}
use Rattle.promises.proofs.Places.{place-holds}
use Rattle.theorems_joins.proofs.Alike as JoinAlike
use Rattle.theorems_joins.proofs.Alone as Alone
use Rattle.theorems_joins.proofs.Called as Called
use Rattle.theorems_joins.proofs.Demand as JoinDemand
use Rattle.theorems_joins.proofs.Exact as Joined
use Rattle.theorems_joins.proofs.Places as JoinPlaces
use Rattle.theorems_streams.proofs.Refused as Refused

pub request-k : RequestK
request-k =
    record {
      join-accepted-exactly = Joined.join-accepted-exactly;
      join-refused-exactly = Joined.join-refused-exactly;
      join-composed = JoinDemand.join-composed;
      join-timely = JoinDemand.join-timely;
      join-exactly = Called.join-exactly;
      join-keeps = λ texts numbers links image.
          unfold join_of in (Refused.refused-left image (join_job texts numbers links image));
      join-bytes = λ texts numbers links bytes q e image le.
          let l = (Joined.join-accepted-exactly texts numbers links q).0 e in
          (((Called.join-exactly texts numbers links image).done (size_of q) _).1
          (record {
            pair = q;
            legal = l;
            is = refl;
            fits = omega (arith, JoinPlaces.join-size-most texts numbers links bytes q l);
            leaves = refl;
          })).0;
      join-alone = Alone.alone-call;
      of-join = λ texts numbers links q l.
          record {
            join-streams = λ inputs X. (
              JoinDemand.pair-streams-forth texts numbers links q l inputs X,
              JoinDemand.pair-streams-back texts numbers links q l inputs X,
            );
            join-streams-exist = JoinDemand.streams-exist texts numbers links q l;
            join-streams-unique = JoinDemand.streams-unique texts numbers links q l;
            join-calls-hold = JoinDemand.calls-hold texts numbers links q l;
            join-calls-among = JoinDemand.calls-among texts numbers links q l;
            join-place-streams = λ bytes s k start size n four a tail bears es free inputs X supplied satisfied.
                place-holds q.program q.schedule q.hypercycle s k start size n four a es free X
                ((JoinDemand.calls-hold texts numbers links q l bytes tail (stretch s.images start (start + size)) bears
                (place_words k s.state) (place-cycles s k start size n four a es free).0
                (own_cycles k (after_event s (load k start size)) es)).holds inputs X supplied satisfied);
            numbers-join-place-streams = λ bytes {image = image} {old = old} {cs = cs} f tail bears.
                let a = numbers-place-alone f in
                rw (← (answers-alone f), a.words_are)
                (JoinDemand.calls-hold texts numbers links q l bytes tail image bears old a.resets cs);
          };
      of-alike = λ texts numbers texts' numbers' links q q' l l' alike.
          record {
            join-alike-streams = JoinAlike.join-streams-alike texts numbers texts' numbers' links q q' l l' alike;
            join-alike-words = JoinAlike.join-words texts numbers texts' numbers' links q q' l l' alike;
          };
    }
