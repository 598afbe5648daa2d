-- All that is known of the protocol alone is kept, for the actions that were begun, where few bindings were made.
use Rattle.arj_law_parts.proofs.Words
use Words.{ℕ, true, List, ◌∷◌, Some, refl, subst, ⊤, Header, again_all, begin_action, tick_outs, with_coord, acts, parent_of}
use Words.{Seen, is_serial}
use Rattle.arj_law_serial.proofs.Terms
use Terms.{Action, paths_of, begun_tree, good_coord, given, up, AreSaid, KnowsFew, IsKept, lines_keep, ArePastIn, AreRecorded, KeepsOf}
use Terms.{begins_in, HasObject, HoldsEntry, KnowsParted, AreUppersOf, WorksAreKnown, parted_keep, uppers_of, works_keep, AbortsAreKnown}
use Terms.{AcksAreKnown, AvoidsAreKnown, HoldsNames, TopsAreKnown, KnowsWhole}
use Rattle.arj_law_disk_view.proofs.running
use running.RecordWalks.{KeptBy, starts_are_recorded, kept_walk, message_kept, recorded_more, restart_recorded, stop_recorded, tick_kept}
use running.Telling.{acked_kept, acts_kept, heard_kept, same_kept}
use Rattle.arj_law_lock_view.proofs.facts.{Entries.entries_keep, Grants.grants_keep, Requests.requests_keep}
use Rattle.arj_law_lock_view.specs.facts.{Grants.GrantsAreKnown, Requests.RequestsAreKnown}
use Rattle.arj_law_runs.proofs.calls.MadeLines.{counts_are_said}
use Rattle.arj_law_serial.proofs.past.Past.{past_of}
use Rattle.arj_law_serial.proofs.whole.{AbortRuns.AbortsNeed, AbortRuns.aborts_of, AckRuns.acks_of, AckWalks.AcksNeed, AvoidWalks.avoids_of}
use Rattle.arj_law_serial.proofs.whole.{Names.held_names, Of.of_as, Of.of_both, Of.of_kept, Of.of_more, TopWalks.tops_of}

-- ---- records

pub records_of : (hd : Header) → KeepsOf hd (λ begun M. ⊤) AreRecorded
records_of hd = record {
  quiet = λ begun e bs M quiet more good p. p;
  stop = λ begun e k d live M more good p. stop_recorded begun e k d live M p;
  message = λ begun e k d t v from m outs M more good p there meant is. kept_walk begun e k d t v outs M
      (subst (KeptBy begun t.coord) is (message_kept begun k d t from (λ a r. heard_kept begun (paths_of begun) (begun_tree begun
      good.begun) from a r d.intents t.coord (good_coord e k d t M (begun, good))) (λ u. acked_kept begun from u d.intents t.coord) m))
      p;
  act = λ begun e k d t i M is free more good p. let did = acts i d.intents t.coord in
      kept_walk begun e k d t (with_coord t did.part) did.outs M (acts_kept begun (paths_of begun) (begun_tree begun good.begun) d.intents
      t.coord (good_coord e k d t M (begun, good)) hd i free) p;
  begin = λ begun e k d t l how parent M new may free more good p. let did = begin_action l how parent (parent_of parent t.coord) t.coord in
      let a = begins_in how parent t in
      kept_walk (a ∷ begun) e k d t (with_coord t did.part) did.outs (given l (record { node = k; serial = is_serial how }) M)
      (same_kept (a ∷ begun) t.coord did.part did.outs refl refl) (recorded_more a begun (up k d t M) p);
  tick = λ begun e k d t M more good p. kept_walk begun e k d t (with_coord t (again_all t.coord.doings t.coord).part)
      (tick_outs (record { number = k; disk = d; live = Some t }) t) M (tick_kept begun k d t) p;
  restart = λ begun e k d M more good p. restart_recorded begun hd e k d M p;
  first = starts_are_recorded hd;
}

-- ---- all together

module _ (hd : Header) (x : ℕ) (has : HasObject hd x) where
  abbrev Few : List Action → Seen → Type 0
  Few begun M = KnowsFew M

  abbrev Named : List Action → Seen → Type 0
  Named begun M = AreUppersOf HoldsNames begun M × TopsAreKnown begun M

  abbrev Working : List Action → Seen → Type 0
  Working begun M = WorksAreKnown M × AvoidsAreKnown M

  abbrev Granted : List Action → Seen → Type 0
  Granted begun M = GrantsAreKnown M × RequestsAreKnown M

  abbrev Counted : List Action → Seen → Type 0
  Counted begun M = AreSaid M × HoldsEntry x M

  abbrev Ended : List Action → Seen → Type 0
  Ended begun M = AreRecorded begun M × KnowsParted begun M

  abbrev Recorded : List Action → Seen → Type 0
  Recorded begun M = Counted begun M × Ended begun M

  abbrev Coords : List Action → Seen → Type 0
  Coords begun M = Working begun M × Granted begun M

  abbrev Rest : List Action → Seen → Type 0
  Rest begun M = Coords begun M × Recorded begun M

  abbrev All : List Action → Seen → Type 0
  All begun M = Named begun M × Rest begun M

  -- where something more holds beside few bindings
  abbrev With : (List Action → Seen → Type 0) → List Action → Seen → Type 0
  With Q begun M = Few begun M × Q begun M

  more : (Q R : List Action → Seen → Type 0) → KeepsOf hd Few R → KeepsOf hd (With Q) R
  more Q R one = of_more hd Few (With Q) R (λ begun M h. h.0) one

  named : KeepsOf hd Few Named
  named = of_both hd Few (AreUppersOf HoldsNames) TopsAreKnown (of_more hd (λ begun M. ⊤) (With TopsAreKnown) (AreUppersOf HoldsNames)
      (λ begun M h. tt) (uppers_of HoldsNames held_names hd)) (tops_of hd)

  working : KeepsOf hd Few Working
  working = of_both hd Few (λ begun M. WorksAreKnown M) (λ begun M. AvoidsAreKnown M)
      (of_kept hd (With (λ begun M. AvoidsAreKnown M)) WorksAreKnown (works_keep hd))
      (of_more hd (λ begun M. _) (With (λ begun M. WorksAreKnown M)) (λ begun M. AvoidsAreKnown M) (λ begun M h. h.1.0.1) (avoids_of hd))

  granted : KeepsOf hd Few Granted
  granted = of_both hd Few (λ begun M. GrantsAreKnown M) (λ begun M. RequestsAreKnown M) (of_kept hd (With (λ begun M. RequestsAreKnown M))
      GrantsAreKnown (grants_keep hd)) (of_kept hd (With (λ begun M. GrantsAreKnown M)) RequestsAreKnown (requests_keep hd))

  counted : KeepsOf hd Few Counted
  counted = of_both hd Few (λ begun M. AreSaid M) (λ begun M. HoldsEntry x M) (of_kept hd (With (λ begun M. HoldsEntry x M)) AreSaid
      (counts_are_said hd)) (of_kept hd (With (λ begun M. AreSaid M)) (HoldsEntry x) (entries_keep hd x has))

  ended : KeepsOf hd Few Ended
  ended = of_both hd Few AreRecorded KnowsParted (of_more hd (λ begun M. ⊤) (With KnowsParted) AreRecorded (λ begun M h. tt)
      (records_of hd)) (of_more hd (λ begun M. ⊤) (With AreRecorded) KnowsParted (λ begun M h. tt) (parted_keep hd))

  recorded : KeepsOf hd Few Recorded
  recorded = of_both hd Few Counted Ended (more Ended Counted counted) (more Counted Ended ended)

  coords : KeepsOf hd Few Coords
  coords = of_both hd Few Working Granted (more Granted Working working) (more Working Granted granted)

  rest : KeepsOf hd Few Rest
  rest = of_both hd Few Coords Recorded (more Recorded Coords coords) (more Coords Recorded recorded)

  all : KeepsOf hd Few All
  all = of_both hd Few Named Rest (more Rest Named named) (more Named Rest rest)

  abbrev Told : List Action → Seen → Type 0
  Told begun M = IsKept M × AbortsAreKnown begun M

  abbrev Acked : List Action → Seen → Type 0
  Acked begun M = ArePastIn begun M × AcksAreKnown true begun M

  abbrev Ends : List Action → Seen → Type 0
  Ends begun M = Told begun M × Acked begun M

  abbrev Whole : List Action → Seen → Type 0
  Whole begun M = All begun M × Ends begun M

  told : KeepsOf hd (With All) Told
  told = of_both hd (With All) (λ begun M. IsKept M) AbortsAreKnown
      (of_kept hd (λ begun M. With All begun M × AbortsAreKnown begun M) IsKept (lines_keep hd))
      (of_more hd AbortsNeed (λ begun M. With All begun M × IsKept M) AbortsAreKnown
      (λ begun M h. ((h.1.1, (let z = h.0.1 in z.1.1.1.1)), ((let z = h.0.1 in z.0.1), (let z = h.0.1 in z.1.1.1.0)))) (aborts_of hd))

  acked : KeepsOf hd (With All) Acked
  acked = of_both hd (With All) ArePastIn (AcksAreKnown true)
      (of_more hd (λ begun M. ⊤) (λ begun M. With All begun M × AcksAreKnown true begun M) ArePastIn (λ begun M h. tt) (past_of hd))
      (of_more hd (AcksNeed true) (λ begun M. With All begun M × ArePastIn begun M) (AcksAreKnown true)
      (λ begun M h. ((λ counted. h.0.0), (h.1, (let z = h.0.1 in (z.1.1.1.0, (z.1.1.1.1, z.1.0.0.0)))))) (acks_of hd true))

  ends : KeepsOf hd (With All) Ends
  ends = of_both hd (With All) Told Acked (of_more hd (With All) (λ begun M. With All begun M × Acked begun M) Told (λ begun M h. h.0) told)
      (of_more hd (With All) (λ begun M. With All begun M × Told begun M) Acked (λ begun M h. h.0) acked)

  whole : KeepsOf hd Few Whole
  whole = of_both hd Few All Ends (more Ends All all) ends

  pub whole_of : KeepsOf hd (λ begun M. KnowsFew M) (KnowsWhole x)
  whole_of = of_as hd Few Whole (KnowsWhole x)
      (λ begun M w. let z = w.0 in record {
        names = z.0.0;
        tops = z.0.1;
        works = z.1.0.0.0;
        avoids = z.1.0.0.1;
        grants = z.1.0.1.0;
        requests = z.1.0.1.1;
        counts = z.1.1.0.0;
        entry = z.1.1.0.1;
        records = z.1.1.1.0;
        parted = z.1.1.1.1;
        written = w.1.0.0;
        aborts = w.1.0.1;
        past = w.1.1.0;
        acks = w.1.1.1;
      })
      (λ begun M w. (
        ((w.names, w.tops), (((w.works, w.avoids), (w.grants, w.requests)), ((w.counts, w.entry), (w.records, w.parted)))),
        ((w.written, w.aborts), (w.past, w.acks)),
      )) whole
