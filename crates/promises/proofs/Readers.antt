-- Request m. Assumes nothing.
use Prim.Native.Nat.{ℕ}
use Rattle.model.specs.Rules.Dependents.{dependents_of}
use Rattle.model.specs.Rules.Image.{image_of}
use Rattle.model.specs.Rules.Program.{Program}
use Rattle.model.specs.Rules.Schedule.{Schedule}
use Rattle.model.specs.Says.Feasible.{Feasible, Multiple}
use Rattle.promises.specs.Dependents.{MarksDependents, DependentsRefusedAt}
use Rattle.promises.specs.Readers.{PlaceReaders, RequestM}
use Rattle.theorems_streams.specs.Lists.{owns}
use Rattle.model.proofs.Images.Bounds.{Bounded}
use Rattle.model.proofs.Images.Tails as Tails
use Rattle.model.proofs.Pairs.Verdict.{pair-multiple, pair-accepted, pair-bounded}
use Rattle.promises.proofs.BoardCourses.{numbers-confined, number-readers}
use Rattle.promises.proofs.Confined.{confined}
use Rattle.promises.proofs.Courses.{course-readers, board-readers}
use Rattle.promises.proofs.Dependents as Marks
use Rattle.theorems_calls.proofs.CallsExact.{both_ways, exactly}
use Rattle.theorems_joins.proofs.Demand as JoinDemand
use Rattle.theorems_joins.proofs.Dependence as JoinDependence
use Rattle.theorems_streams.proofs.Dependence as Dependence
use Rattle.theorems_streams.proofs.Dependents as Decided
use Rattle.theorems_streams.proofs.Lending as Lending

-- Of places that hold the image of a program, schedule and hypercycle.
place-readers : (p : Program) (q : Schedule) (h : ℕ) → Feasible p q → Multiple p h → Bounded p q h → PlaceReaders p q h
place-readers p q h acc whole bounded =
    record {
      courses = course-readers p q h acc whole bounded;
      boards = board-readers p q h acc whole bounded;
      numbers = number-readers p q h acc whole bounded;
    }

pub request-m : RequestM
request-m =
    record {
      reads-exactly = Dependence.reads-exactly;
      of_pair = λ program schedule bytes p s h e.
          let accepts = pair-accepted program schedule _ e in
          let multiple = pair-multiple program schedule _ e in
          let bounded = pair-bounded program schedule _ e bytes in
          record {
            dependents-exactly = Decided.dependents-exactly p s accepts;
            streams-apart = Dependence.streams-apart p s accepts;
            only-readers = λ tail tail' lent lent' b b' old old' r r'.
                Dependence.only-readers p s h accepts multiple bounded b b' old old' r r';
            lent-agree = λ tail tail' lent lent' b b' old old' r r'.
                Dependence.lent-agree-each p s h accepts multiple bounded b b' old old' r r';
            only-readers-among =
                λ size size' buffer buffer' tail tail' b b' old old' r r' i ls ls' alike own own' others others'.
                let itself = Tails.bears-itself (image_of p s h) in
                let a = Lending.among p s h accepts multiple bounded size buffer b old ls own others in
                let a' = Lending.among p s h accepts multiple bounded size' buffer' b' old' ls' own' others' in
                rw (a.0, a.1, a.2, a'.0, a'.1, a'.2)
                (Dependence.runs-apart p s h accepts multiple bounded itself itself old old'
                (Lending.reset-itself p s h accepts multiple bounded size buffer b old r)
                (Lending.reset-itself p s h accepts multiple bounded size' buffer' b' old' r') i (owns ls) (owns ls') alike);
          };
      join-only-readers = λ texts numbers links q l bytes tail tail' lent lent' b b' old old' r r'.
          JoinDependence.join-only-readers texts numbers links bytes q l b b' old old' r r';
      of-place = λ program schedule bytes p q h e.
          place-readers p q h (pair-accepted program schedule _ e) (pair-multiple program schedule _ e)
          (pair-bounded program schedule _ e bytes);
      of-join-place = λ texts numbers links bytes q l.
          place-readers q.program q.schedule q.hypercycle (JoinDemand.feasible texts numbers links q l)
          (JoinDemand.multiple texts numbers links q l) (JoinDemand.bounded texts numbers links q l bytes);
      place-confined = λ k s s' es es'. confined;
      numbers-place-confined = λ k m m' es es'. numbers-confined;
      dependents-call = λ program schedule i marks.
          unfold dependents_of in
          (exactly marks (MarksDependents program schedule i) (DependentsRefusedAt program schedule i) _
          (both_ways _ (Marks.answers program schedule i) (Marks.marks-done program schedule i)
          (λ g r. Marks.marks-refused program schedule i r)));
    }
