use Rattle.std.proofs.Common.{◌≡◌, ◌∙◌, ◌+◌, ◌∷◌, ◌++◌, [], false, ap, refl, subst, sym}
use Rattle.std.proofs.lemmas.Result.{on_ok_weaker}
use Rattle.arj_protocol.specs.Words.body
use Rattle.arj_protocol.specs.Words.which
use Rattle.arj_protocol.specs.World.{counted, numbered}
use Rattle.arj_world.specs.Happens.{HappensTo, RunsTo, done}
use Rattle.arj_world.specs.Stands.{Keeps, StandsSome, hand}
use Rattle.arj_world.proofs.Armed.{given_arms, refused_arms}
use Rattle.arj_world.proofs.Counts.{counts_once, grows_over, grows_so}
use Rattle.arj_world.proofs.Disks.{moved_none, moved_unasked}
use Rattle.arj_world.proofs.Owns.{answers_over, answers_so, ends_over, ends_so, settles_go, settles_so}
use Rattle.arj_world.proofs.Runs.{counted_stands, keeps_uncounted, on_ok_both, runs_accepted, runs_over, runs_refused}
use Rattle.arj_world.specs.Tells.{TellsStops, crashed_by}
use Rattle.arj_world.proofs.Tells.{tells_line, tells_none}
use Rattle.arj_world.proofs.world.World.step.Goals as goal

pub returns-in-Some-clause-ran : goal.returns-in-Some-clause-ran
returns-in-Some-clause-ran g c =
    let old = hand c.args.self.now c.args.rack.now c.args.journal.now in
    let next = record c.args.self.now { event = c.args.self.now.event + 1 } in
    let line = numbered (c.args.self.now.event + 1) (body.Refused c.in-Some.cause ∷ []) in
    on_ok_weaker c.refuse.result
    (λ (both : (c.refuse.new.self ≡ next) × (c.refuse.new.journal ≡ c.args.journal.now ++ line)).
    subst (λ s. RunsTo g.C.Core g.D.Disk.file c.args.event old (hand s c.args.rack.now c.refuse.new.journal)) (sym both.0)
    (runs_refused g.C.Core g.D.Disk.file c.args.event c.in-Some.cause old c.refuse.new.journal (λ w keeps. sym c.in-Some.is ∙ c.in_ok-cause.ensures.cause w keeps) both.1))
    (on_ok_both (c.refuse.new.self ≡ next) (c.refuse.new.journal ≡ c.args.journal.now ++ line) c.refuse.result c.refuse.ensures.counted c.refuse.ensures.said)

pub returns-in-Some-clause-frames : goal.returns-in-Some-clause-frames
returns-in-Some-clause-frames g c = λ e. absurd (c.refuse.ensures.frames e)

pub returns-in-Some-clause-last : goal.returns-in-Some-clause-last
returns-in-Some-clause-last g c = λ e. absurd (c.refuse.ensures.frames e)

pub returns-in-Some-clause-kept : goal.returns-in-Some-clause-kept
returns-in-Some-clause-kept g c = λ e. absurd (c.refuse.ensures.labels e)

pub returns-in-Some-clause-labels : goal.returns-in-Some-clause-labels
returns-in-Some-clause-labels g c = λ e. absurd (c.refuse.ensures.labels e)

pub returns-then-lacks_labels-clause-kept : goal.returns-then-lacks_labels-clause-kept
returns-then-lacks_labels-clause-kept g c = λ e. (refl, refl, refl)

pub returns-then-lacks_labels-clause-labels : goal.returns-then-lacks_labels-clause-labels
returns-then-lacks_labels-clause-labels g c =
    λ e w keeps. (sym c.in_default.is ∙ c.in_ok-cause.ensures.cause w keeps, sym (c.if-lacks_labels.ensures w keeps))

pub happen-requires-clause-accepted : goal.happen-requires-clause-accepted
happen-requires-clause-accepted g c = λ w keeps.
    sym c.in_default.is ∙ c.in_ok-cause.ensures.cause w (keeps_uncounted g.C.Core g.D.Disk.file c.args.self.now (c.args.self.now.event + 1) w (subst (λ s. Keeps g.C.Core s w) c.count.ensures keeps))

pub happen-requires-clause-stands : goal.happen-requires-clause-stands
happen-requires-clause-stands g c =
    let st = c.requires.stands in
    subst (λ s. StandsSome g.C.Core g.D.Disk.file (hand s c.args.rack.now c.args.journal.now)) (sym c.count.ensures)
    (counted st.0, counted_stands g.C.Core g.D.Disk.file (hand c.args.self.now c.args.rack.now c.args.journal.now) st.0 st.1)

pub returns-clause-ran : goal.returns-clause-ran
returns-clause-ran g c =
    let old = hand c.args.self.now c.args.rack.now c.args.journal.now in
    let new = hand c.happen.new.self c.happen.new.rack c.happen.new.journal in
    on_ok_weaker c.end.result
    (λ (both : (c.happen.new.self.full ≡ false) × (c.end.new.journal ≡ c.happen.new.journal)).
    subst (λ j. RunsTo g.C.Core g.D.Disk.file c.args.event old (hand c.happen.new.self c.happen.new.rack j)) (sym both.1)
    (runs_accepted g.C.Core g.D.Disk.file c.args.event old new (λ w keeps. sym c.in_default.is ∙ c.in_ok-cause.ensures.cause w keeps) c.if-lacks_labels.ensures
    (subst (λ s. HappensTo g.C.Core g.D.Disk.file (done c.args.event) (hand s c.args.rack.now c.args.journal.now) new) c.count.ensures c.in_ok-happen.ensures.happens) both.0))
    (on_ok_both (c.happen.new.self.full ≡ false) (c.end.new.journal ≡ c.happen.new.journal) c.end.result c.end.ensures.fits c.end.ensures.still)

pub returns-clause-frames : goal.returns-clause-frames
returns-clause-frames g c = λ e.
    let old = hand c.args.self.now c.args.rack.now c.args.journal.now in
    let new = hand c.happen.new.self c.happen.new.rack c.happen.new.journal in
    runs_over g.C.Core g.D.Disk.file c.args.event old new (λ w keeps. sym c.in_default.is ∙ c.in_ok-cause.ensures.cause w keeps) c.if-lacks_labels.ensures
    (subst (λ s. HappensTo g.C.Core g.D.Disk.file (done c.args.event) (hand s c.args.rack.now c.args.journal.now) new) c.count.ensures c.in_ok-happen.ensures.happens)
    c.end.new.journal (c.end.ensures.full e) (c.end.ensures.said e)

pub returns-clause-last : goal.returns-clause-last
returns-clause-last g c =
    λ e. (c.happen.new.journal, record { event = c.happen.new.self.event; body = body.Limit which.Frames }, c.end.ensures.said e, refl)

pub returns-clause-kept : goal.returns-clause-kept
returns-clause-kept g c = λ e. absurd (c.end.ensures.labels e)

pub returns-clause-labels : goal.returns-clause-labels
returns-clause-labels g c = λ e. absurd (c.end.ensures.labels e)

pub returns-in-Some-clause-counted : goal.returns-in-Some-clause-counted
returns-in-Some-clause-counted g c =
    on_ok_weaker c.refuse.result (λ (next : c.refuse.new.self ≡ record c.args.self.now {
      event =
          c.args.self.now.event + 1;
    }). ap (λ k. k.event) next) c.refuse.ensures.counted

pub returns-in-Some-clause-counted_over : goal.returns-in-Some-clause-counted_over
returns-in-Some-clause-counted_over g c = λ e. absurd (c.refuse.ensures.frames e)

pub returns-in-Some-clause-grown : goal.returns-in-Some-clause-grown
returns-in-Some-clause-grown g c =
    on_ok_weaker c.refuse.result (λ (said : c.refuse.new.journal ≡ c.args.journal.now ++ numbered (c.args.self.now.event + 1) (body.Refused c.in-Some.cause ∷ [])). (numbered (c.args.self.now.event + 1) (body.Refused c.in-Some.cause ∷ []), said)) c.refuse.ensures.said

pub returns-in-Some-clause-grown_over : goal.returns-in-Some-clause-grown_over
returns-in-Some-clause-grown_over g c = λ e. absurd (c.refuse.ensures.frames e)

pub returns-clause-counted : goal.returns-clause-counted
returns-clause-counted g c =
    let old = hand c.args.self.now c.args.rack.now c.args.journal.now in
    let new = hand c.happen.new.self c.happen.new.rack c.happen.new.journal in
    on_ok_weaker c.end.result
    (λ (fits : c.happen.new.self.full ≡ false). counts_once g.C.Core g.D.Disk.file c.args.event old new
    (subst (λ s. HappensTo g.C.Core g.D.Disk.file (done c.args.event) (hand s c.args.rack.now c.args.journal.now) new) c.count.ensures c.in_ok-happen.ensures.happens) c.requires.stands)
    c.end.ensures.fits

pub returns-clause-counted_over : goal.returns-clause-counted_over
returns-clause-counted_over g c = λ e.
    let old = hand c.args.self.now c.args.rack.now c.args.journal.now in
    let new = hand c.happen.new.self c.happen.new.rack c.happen.new.journal in
    counts_once g.C.Core g.D.Disk.file c.args.event old new
    (subst (λ s. HappensTo g.C.Core g.D.Disk.file (done c.args.event) (hand s c.args.rack.now c.args.journal.now) new) c.count.ensures c.in_ok-happen.ensures.happens) c.requires.stands

pub returns-clause-grown : goal.returns-clause-grown
returns-clause-grown g c =
    let old = hand c.args.self.now c.args.rack.now c.args.journal.now in
    let new = hand c.happen.new.self c.happen.new.rack c.happen.new.journal in
    on_ok_weaker c.end.result
    (λ (both : (c.happen.new.self.full ≡ false) × (c.end.new.journal ≡ c.happen.new.journal)).
    let more = grows_so g.C.Core g.D.Disk.file c.args.event old new
    (runs_accepted g.C.Core g.D.Disk.file c.args.event old new (λ w keeps. sym c.in_default.is ∙ c.in_ok-cause.ensures.cause w keeps) c.if-lacks_labels.ensures
    (subst (λ s. HappensTo g.C.Core g.D.Disk.file (done c.args.event) (hand s c.args.rack.now c.args.journal.now) new) c.count.ensures c.in_ok-happen.ensures.happens) both.0) c.requires.stands in
    (more.0, both.1 ∙ more.1))
    (on_ok_both (c.happen.new.self.full ≡ false) (c.end.new.journal ≡ c.happen.new.journal) c.end.result c.end.ensures.fits c.end.ensures.still)

pub returns-clause-grown_over : goal.returns-clause-grown_over
returns-clause-grown_over g c = λ e.
    let old = hand c.args.self.now c.args.rack.now c.args.journal.now in
    let new = hand c.happen.new.self c.happen.new.rack c.happen.new.journal in
    grows_over g.C.Core g.D.Disk.file c.args.event old (hand c.happen.new.self c.happen.new.rack c.end.new.journal)
    (runs_over g.C.Core g.D.Disk.file c.args.event old new (λ w keeps. sym c.in_default.is ∙ c.in_ok-cause.ensures.cause w keeps) c.if-lacks_labels.ensures
    (subst (λ s. HappensTo g.C.Core g.D.Disk.file (done c.args.event) (hand s c.args.rack.now c.args.journal.now) new) c.count.ensures c.in_ok-happen.ensures.happens)
    c.end.new.journal (c.end.ensures.full e) (c.end.ensures.said e)) c.requires.stands

pub returns-in-Some-clause-stops : goal.returns-in-Some-clause-stops
returns-in-Some-clause-stops g c =
    let line = numbered (c.args.self.now.event + 1) (body.Refused c.in-Some.cause ∷ []) in
    on_ok_weaker c.refuse.result
    (λ (said : c.refuse.new.journal ≡ c.args.journal.now ++ line). tells_line g.D.Disk c.args.self.now.header.nodes (crashed_by c.args.event) c.args.rack.now c.args.rack.now c.args.journal.now c.args.journal.now c.refuse.new.journal line
    (λ n. refl) said (tells_none g.D.Disk c.args.self.now.header.nodes (crashed_by c.args.event) c.args.rack.now c.args.journal.now)) c.refuse.ensures.said

pub returns-in-Some-clause-stops_over : goal.returns-in-Some-clause-stops_over
returns-in-Some-clause-stops_over g c = λ e. absurd (c.refuse.ensures.frames e)

pub returns-clause-stops : goal.returns-clause-stops
returns-clause-stops g c = on_ok_weaker c.end.result
    (λ (still : c.end.new.journal ≡ c.happen.new.journal). subst (λ s. TellsStops g.D.Disk s.header.nodes (crashed_by c.args.event) c.args.rack.now c.happen.new.rack c.args.journal.now c.end.new.journal) c.count.ensures
    (subst (TellsStops g.D.Disk c.count.new.self.header.nodes (crashed_by c.args.event) c.args.rack.now c.happen.new.rack c.args.journal.now) (sym still) c.in_ok-happen.ensures.tells))
    c.end.ensures.still

pub returns-clause-stops_over : goal.returns-clause-stops_over
returns-clause-stops_over g c = λ e.
    tells_line g.D.Disk c.args.self.now.header.nodes (crashed_by c.args.event) c.args.rack.now c.happen.new.rack c.args.journal.now c.happen.new.journal c.end.new.journal
    (numbered c.happen.new.self.event (body.Limit which.Frames ∷ [])) (λ n. refl) (c.end.ensures.said e)
    (subst (λ s. TellsStops g.D.Disk s.header.nodes (crashed_by c.args.event) c.args.rack.now c.happen.new.rack c.args.journal.now c.happen.new.journal) c.count.ensures c.in_ok-happen.ensures.tells)

pub returns-in-Some-clause-answers : goal.returns-in-Some-clause-answers
returns-in-Some-clause-answers g c = on_ok_weaker c.refuse.result
    (answers_so g.C.Core g.D.Disk.file c.args.event (hand c.args.self.now c.args.rack.now c.args.journal.now) (hand c.refuse.new.self c.args.rack.now c.refuse.new.journal)) (returns-in-Some-clause-ran g c)

pub returns-in-Some-clause-answers_over : goal.returns-in-Some-clause-answers_over
returns-in-Some-clause-answers_over g c = λ e. absurd (c.refuse.ensures.frames e)

pub returns-clause-answers : goal.returns-clause-answers
returns-clause-answers g c = on_ok_weaker c.end.result
    (answers_so g.C.Core g.D.Disk.file c.args.event (hand c.args.self.now c.args.rack.now c.args.journal.now) (hand c.happen.new.self c.happen.new.rack c.end.new.journal)) (returns-clause-ran g c)

pub returns-clause-answers_over : goal.returns-clause-answers_over
returns-clause-answers_over g c = λ e.
    answers_over g.C.Core g.D.Disk.file c.args.event (hand c.args.self.now c.args.rack.now c.args.journal.now) (hand c.happen.new.self c.happen.new.rack c.end.new.journal) (returns-clause-frames g c e)

pub returns-in-Some-clause-settled : goal.returns-in-Some-clause-settled
returns-in-Some-clause-settled g c = on_ok_weaker c.refuse.result
    (λ said which. absurd (settles_go g.C.Core g.D.Disk.file c.args.event c.in-Some.cause (hand c.args.self.now c.args.rack.now c.args.journal.now) (λ w keeps. sym c.in-Some.is ∙ c.in_ok-cause.ensures.cause w keeps) c.requires.stands which)) c.refuse.ensures.said

pub returns-clause-settled : goal.returns-clause-settled
returns-clause-settled g c = on_ok_weaker c.end.result
    (λ ran. settles_so g.C.Core g.D.Disk.file c.args.event (hand c.args.self.now c.args.rack.now c.args.journal.now) (hand c.happen.new.self c.happen.new.rack c.end.new.journal) ran c.requires.stands c.end.ensures.few) (returns-clause-ran g c)

pub returns-in-Some-clause-ends : goal.returns-in-Some-clause-ends
returns-in-Some-clause-ends g c = on_ok_weaker c.refuse.result
    (ends_so g.C.Core g.D.Disk.file c.args.event (hand c.args.self.now c.args.rack.now c.args.journal.now) (hand c.refuse.new.self c.args.rack.now c.refuse.new.journal)) (returns-in-Some-clause-ran g c)

pub returns-in-Some-clause-ends_over : goal.returns-in-Some-clause-ends_over
returns-in-Some-clause-ends_over g c = λ e. absurd (c.refuse.ensures.frames e)

pub returns-clause-ends : goal.returns-clause-ends
returns-clause-ends g c = on_ok_weaker c.end.result
    (ends_so g.C.Core g.D.Disk.file c.args.event (hand c.args.self.now c.args.rack.now c.args.journal.now) (hand c.happen.new.self c.happen.new.rack c.end.new.journal)) (returns-clause-ran g c)

pub returns-clause-ends_over : goal.returns-clause-ends_over
returns-clause-ends_over g c = λ e.
    ends_over g.C.Core g.D.Disk.file c.args.event (hand c.args.self.now c.args.rack.now c.args.journal.now) (hand c.happen.new.self c.happen.new.rack c.end.new.journal) (returns-clause-frames g c e)

pub returns-in-Some-clause-disks : goal.returns-in-Some-clause-disks
returns-in-Some-clause-disks g c = moved_unasked g.D.Disk c.args.self.now.header.nodes c.args.event c.args.rack.now c.args.rack.now
    (refused_arms g.C.Core g.D.Disk.file c.args.event c.in-Some.cause (hand c.args.self.now c.args.rack.now c.args.journal.now) (λ w keeps. sym c.in-Some.is ∙ c.in_ok-cause.ensures.cause w keeps) c.requires.stands)
    (moved_none g.D.Disk c.args.self.now.header.nodes c.args.rack.now)

pub returns-then-lacks_labels-clause-disks : goal.returns-then-lacks_labels-clause-disks
returns-then-lacks_labels-clause-disks g c =
    moved_unasked g.D.Disk c.args.self.now.header.nodes c.args.event c.args.rack.now c.args.rack.now
    (λ n low high. given_arms g.C.Core g.D.Disk.file c.args.event (hand c.args.self.now c.args.rack.now c.args.journal.now) c.if-lacks_labels.ensures c.requires.stands n)
    (moved_none g.D.Disk c.args.self.now.header.nodes c.args.rack.now)
