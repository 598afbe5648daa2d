-- Both machines of each object at once, in each world that is reached.
use Rattle.arj_law_parts.proofs.Words.{List, subst, Post, Seen, see, World, world_by, ⊤, ℕ, true, ◌≡◌, is_some, Header}
use Rattle.arj_law_serial.proofs.Terms
use Terms.{IsJoinedSo, world_of, IncludersTakeTurns, KeepsPart, Kinds, Office, first_values, object_line, new_book, AreRight, kept_right}
use Terms.{RequestsAreOne, part_more, State, Fixed, OpsFit, IsReached, HeaderFits, kept_nodes}
use Terms.Effects as machine
use Rattle.arj_law_disk_view.proofs.running.{Copies.copies_agree, ListedRuns.loads_there}
use Rattle.arj_law_parts.specs.moves.Keeps.{Holds}
use Rattle.arj_law_serial.proofs.joint
use joint.{FitRuns.runs_in_form, Fits.fits_before, JoinKeeps.WithTurns, JoinKeeps.turns_part, Joining.HasLocks, Joining.WithLocks}
use joint.{NextGiven.one_requests, Written.bare, Written.wrote}
use joint.JoinedParts.{Base, Carried, Early, Whole, base, locked}
use joint.LightKeeps.{WithLights, lights_part}
use joint.OrderedRuns.{IsOrderedBeside, lights_split, ordered_beside}
use Rattle.arj_law_serial.specs.joint.Joined.{RunsAreJoined}

-- ---- the law

pub reached_joined : (hd : Header) (x : ℕ) → HeaderFits hd → is_some (object_line hd x) ≡ true → (w : World) → IsReached hd w →
    OpsFit x w.lines → Holds hd (IsJoinedSo hd x) w
reached_joined hd x form there w reached fit =
    let h = ordered_beside hd x (OpsFit x) (fits_before x) (Base hd x) Joined form there
    (base hd x form there (λ M. ⊤) Nothing (λ M N l f S T run past. tt) (λ f S st formed. tt)) part w reached fit in
    record { sent = h.sent; stands = h.stands; holds = joined h.sent h.holds }
  where
    -- of the lock machine's state nothing more
    Nothing : Fixed → State → Seen → Type 0
    Nothing f S M = ⊤

    Joined : Kinds → Office → Seen → Type 0
    Joined tops A M = WithLights x (WithTurns x (WithLocks (first_values hd) x (Whole x) Nothing (Carried hd x))) tops A M

    paired : KeepsPart hd x (Early hd x) (WithLocks (first_values hd) x (Whole x) Nothing (Carried hd x))
    paired = part_more hd x (λ W M. Early hd x W M × ⊤) (Early hd x) (WithLocks (first_values hd) x (Whole x) Nothing (Carried hd x))
        (λ W M q. (q, tt)) (locked hd x form there (λ M. ⊤) Nothing (λ M N l f S T run past. tt) (λ f S st formed. tt))

    -- and each two of which one includes a store took turns; and so did those that change nothing
    part : KeepsPart hd x (Early hd x) Joined
    part = lights_part hd x (Early hd x) (WithTurns x (WithLocks (first_values hd) x (Whole x) Nothing (Carried hd x)))
        (λ W M q. q.0.0.0.0.1) (λ tops A M p. p.0.0.0.0.0.0.0.0) (λ tops A M p. p.1)
        (turns_part hd x (Early hd x) (WithLocks (first_values hd) x (Whole x) Nothing (Carried hd x)) (λ W M q. q.0.0.0.0.1)
        (λ tops A M p. p.0.0.0.0.0.0.0) (λ tops A M p. p.0.0.0.0.0.0.1) paired)

    joined : (sent : List Post) → IsOrderedBeside (Base hd x) Joined hd x (see sent w) → IsJoinedSo hd x (see sent w)
    joined sent (o, tops, A, same, p, few, seen, kept) = record {
      loads = loads_there x tops A M seen (let z = kept.0.0 in z.0.0) few (let z = p.0.0.0 in z.1);
      ordered = o;
      includers = subst (λ (W : machine.World). IncludersTakeTurns M.lines W.disk.tops) same (let k = p.0.1 in k.turns);
      lights = lights_split hd x w (kept_nodes hd w reached.keeping) sent o A same p.1;
      begun = locks.0;
      alike = locks.1;
      seen = (λ f a. let z = locks.3 f a in (z.0, z.1, z.2, z.3, z.4, z.6));
      requests = requests;
      wrote = (let b = o.begun in let j = b.journalled in
          wrote hd w x right sent j.tops j.machine j.sees locks.0 locks.1 (λ f a. let z = locks.3 f a in (z.0, z.1, z.2, z.4)) requests);
      agree = (let b = o.begun in let j = b.journalled in copies_agree x j.tops j.machine M j.sees);
      bare = (let b = o.begun in let j = b.journalled in
          bare hd w x right sent j.tops j.machine j.sees locks.0 locks.1 (λ f a. let z = locks.3 f a in (z.0, z.1, z.2, z.4)) requests);
    }
      where
        M : Seen
        M = see sent w

        locks : HasLocks (first_values hd) x (Whole x) Nothing (world_of o) M
        locks = subst (λ W. HasLocks (first_values hd) x (Whole x) Nothing W M) same p.0.0.1

        right : AreRight new_book w.lines
        right = kept_right hd w reached.keeping

        requests : RequestsAreOne M
        requests = one_requests x locks.0 M few locks.2.0

pub moves_are_joined : RunsAreJoined
moves_are_joined hd r f x there = let h = runs_in_form hd r f in reached_joined hd x f.header there (world_by hd r) h.0 (h.1 x)
