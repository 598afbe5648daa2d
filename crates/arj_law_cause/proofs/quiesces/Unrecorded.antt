-- A tick of a node, events that lose nothing, and a settle leave no record on its disk: from the tick on what brings each acknowledgement
-- is under way, and what is decided since is told at once to all who took part.
use Rattle.arj_law_parts.proofs.Words
use Words.{◌≡◌, ◌∙◌, ◌+◌, ◌≤◌, ◌==◌, ◌||◌, ◌&&◌, nat_le, ℕ, true, List, [], ◌∷◌, ◌++◌, length, length-append, most_events, refl, sym, ap}
use Words.{subst, inr, Option, Some, None, is_some, option_map, arith, nat_tests, Header, Move, Uid, World, Node, Parts, Disk, Intent}
use Words.{Seen, acts, all_moved, at_place, at_uid, has, lowest_from, moved, see, world_by, world_from, journal_by, append-nil}
use Words.input
use Rattle.arj_law_parts.proofs.moves.Moving.{more_moves}
use Rattle.arj_law_promise.proofs.Terms.{Holds, IsGood, KeepsAsked, move_asked, moves_asked}
use Rattle.arj_law_promise.proofs.settling.Settled.{handlers_settle}
use Rattle.arj_law_promise.specs.settling.Settled.{KnowsPrepared}
use Rattle.arj_law_runs.proofs.Terms.{SettlesAll, keeps_asked, up}
use Rattle.arj_law_runs.proofs.coordinators.RunCoords.{IsSo, all_keep_so}
use Rattle.arj_law_runs.proofs.resting
use resting.{Quiesces.asked_both, Quiesces.keeps_good, Settles.Also, Settles.Nobody, Worlds.IsLive, Worlds.Under, Worlds.live_at}
use resting.{Worlds.none_under, Worlds.seen_up}
use Rattle.arj_model.specs.Disks.{Disks}
use Rattle.arj_law_runs.specs.follow.Frames.{run_events}
use Rattle.arj_model.specs.Past.{Past, at_start}
use Rattle.arj_model.specs.Refusals as model
use Rattle.arj_promise.specs.Disks.{record_of}
use Rattle.arj_promise.specs.Promise.{HasDisks}
use Rattle.arj_promise.specs.Runs.{HeaderFits, IsInForm, Run}
use Rattle.arj_law_cause.proofs.quiesces.Rounds as rounds
use Rattle.arj_law_cause.proofs.quiesces.Sents.{AllSent, sents_kept}
use Rattle.arj_law_cause.proofs.quiesces.Spans as spans
use Rattle.arj_law_cause.proofs.quiesces.Spans.{ActsKeep}
use Rattle.arj_law_cause.proofs.quiesces.Tolds as tolds
use tolds.{Acks, acks_fewer, acks_more, call_tells, commit_tells, include_tells}
use Rattle.arj_law_cause.proofs.quiesces.Walked as walked
use Rattle.arj_law_cause.specs.rounds.Rounds.{Did as Wrote, WasWritten, behind}
use Rattle.arj_law_cause.specs.rounds.Settles.{IsSettled, RunsLeaveNoRecord}

-- what is known of records, and of who was sent something in a commit
abbrev Q : Header → Seen → Type 0
Q hd M = (KnowsPrepared hd M × IsGood M) × IsSo AllSent sents_kept M

module _ (hd : Header) (form : HeaderFits hd) where
  keeps : KeepsAsked hd (Q hd)
  keeps = asked_both hd (λ M. KnowsPrepared hd M × IsGood M) (IsSo AllSent sents_kept)
      (keeps_good hd (KnowsPrepared hd) (handlers_settle hd form).0)
      (keeps_asked hd (IsSo AllSent sents_kept) (all_keep_so AllSent sents_kept hd))

  gives : SettlesAll hd (Q hd)
  gives =
      let g = (handlers_settle hd form).1 in
      record {
        within = λ M p h. g.within M p h.0.0;
        sorted = λ n d t M h. g.sorted n d t M h.0.0;
        records = λ n d t M u h. g.records n d t M u h.0.0;
        naming = λ n d t M u h. g.naming n d t M u h.0.0;
        awaited = λ n d t M u i h. g.awaited n d t M u i h.0.0;
        prepared = λ n d t M k a u h. g.prepared n d t M k a u h.0.0;
      }

  same_number : (j : ℕ) → (j == j) ≡ true
  same_number j = grind (arith, nat_tests)

  sents : (n : ℕ) (d : Disk) (t : Parts) (M : Seen) → Q hd (up n d t M) → AllSent t.coord
  sents n d t M h = h.1.1 n (record { number = n; disk = d; live = Some t }) t
      (λ i. Words.cond (same_number n i) (Some (record { number = n; disk = d; live = Some t })) (M.nodes n)) refl

  asks_keep : (nodes : ℕ → Type 0) → ActsKeep hd (Q hd) (Acks nodes)
  asks_keep nodes n (input.Call l x op) one d t M h free F B own = tolds.acks_did hd (Q hd) gives sents nodes n d t M F B
      (acts (input.Call l x op) d.intents t.coord).part (acts (input.Call l x op) d.intents t.coord).outs
      (call_tells l x op t.coord d.intents) own
  asks_keep nodes n (input.Include l x s) one d t M h free F B own = tolds.acks_did hd (Q hd) gives sents nodes n d t M F B
      (acts (input.Include l x s) d.intents t.coord).part (acts (input.Include l x s) d.intents t.coord).outs
      (include_tells l x s t.coord d.intents) own
  asks_keep nodes n (input.Commit l) one d t M h free F B own = tolds.acks_did hd (Q hd) gives sents nodes n d t M F B
      (acts (input.Commit l) d.intents t.coord).part (acts (input.Commit l) d.intents t.coord).outs (commit_tells l t.coord d.intents) own
  asks_keep nodes n i one d t M h free F B own = absurd (cc one)

  abbrev Ends : ℕ → World → List Wrote → Past → Type 0
  Ends n end rest q = spans.Ends hd form (Q hd) keeps gives.within Acks acks_more (λ nodes. tolds.acks_message hd (Q hd) gives sents nodes)
      acks_fewer (λ nodes n. tolds.acks_ticked hd (Q hd) gives sents nodes n) asks_keep (λ found F B k a t u i j there. absurd there) n end
      rest q

  ends_so : (n : ℕ) (first : Wrote) (between : List Wrote) (last : Wrote) (rest : List Wrote) (end : World) (front : Run hd)
      (ms : List Move) (p : Past) → length front.moves + length ms ≤ most_events →
      walked.IsWalked hd form ms p (world_by hd front) (first ∷ (between ++ (last ∷ rest))) → end ≡ all_moved ms (world_by hd front) →
      IsSettled hd p n first between last → Ends n end rest (behind p (first ∷ (between ++ (last ∷ []))))
  ends_so = spans.ends_so hd form (Q hd) keeps gives.within Acks acks_more (λ nodes. tolds.acks_message hd (Q hd) gives sents nodes)
      acks_fewer (λ nodes n. tolds.acks_ticked hd (Q hd) gives sents nodes n) asks_keep (λ found F B k a t u i j there. absurd there)

  -- ---- a node for which no acknowledgement is under way

  module _ (n : ℕ) (w : World) (h : Holds hd (Q hd) w) (acks : Acks (Also Nobody n) (λ k. at_place k w.nodes) (Under w.frames)
      (Words.IsSaid w.lines)) (none : lowest_from 1 w.frames ≡ None) (x : Node) (t : Parts) (there : at_place n w.nodes ≡ Some x)
      (live : x.live ≡ Some t) where
    here : Q hd (up n x.disk t (see h.sent w))
    here = seen_up (Q hd) n x t h.sent w there (h.stands.numbers n x there) live h.holds

    none_told : (u : Uid) (i : Intent) → at_uid u t.coord.telling ≡ Some i → (ns : List ℕ) → i.nodes ≡ ns → ⊥
    none_told u i at [] is = gives.awaited n x.disk t (see h.sent w) u i here at is
    none_told u i at (j ∷ js) is =
        let way = acks n x t u i j (inr refl) there live at (ap (λ ns. has ns j) is ∙ (λ z. same_number j z || has js j)) in
        none_under 1 w.frames none way.1.frame way.1.there way.1.opened

    none_left : (u : Uid) → at_uid u x.disk.intents ≡ None
    none_left u = by (at_uid u x.disk.intents) refl
      where
        told : (o : Option Intent) → at_uid u t.coord.telling ≡ o → is_some o ≡ true → ⊥
        told None at some = absurd (cc some)
        told (Some i) at some = none_told u i at i.nodes refl

        by : (o : Option Intent) → at_uid u x.disk.intents ≡ o → o ≡ None
        by None is = refl
        by (Some i) is = absurd (told (at_uid u t.coord.telling) refl
            (gives.records n x.disk t (see h.sent w) u here (ap (λ (o : Option Intent). is_some o) is)))

  -- ---- where the run ends

  module _ (r : Run hd) (its : IsInForm hd r) (n : ℕ) (q : Past) (node : model.is_node hd n ≡ true) (e : Ends n (world_by hd r) [] q)
      (lines : journal_by hd r ≡ q.lines) (disks : Disks) (has_them : HasDisks hd r disks) where
    abbrev v : World
    v = moved e.move (world_by hd e.front)

    ends_there : world_by hd r ≡ moved e.move (world_by hd e.front)
    ends_there = rounds.ends_at hd form r its (moved e.move (world_by hd e.front)) e.left q e.on e.after e.walked.1 e.goes lines

    held : Holds hd (Q hd) (moved e.move (world_by hd e.front))
    held = move_asked hd (Q hd) keeps e.move (world_by hd e.front) (moves_asked hd (Q hd) keeps e.front)

    x : IsLive n (moved e.move (world_by hd e.front))
    x = live_at n (moved e.move (world_by hd e.front))
        (e.ups n (subst (λ (z : Header). (nat_le 1 n && nat_le n z.nodes) ≡ true) (sym held.stands.header) node))

    no_record : (top : Uid) → (let d = disks n in d.records top) ≡ None
    no_record top =
        let read = has_them n x.node (ap (λ (z : World). at_place n z.nodes) ends_there ∙ x.there) in
        read.records top ∙ ap (option_map record_of) (none_left n (moved e.move (world_by hd e.front)) held e.flown e.none x.node x.parts
        x.there x.live top)

-- so it is in every run
pub runs_leave_no_record : RunsLeaveNoRecord
runs_leave_no_record hd r its = record {
  did = k.did;
  written = w;
  last = λ before n first between last are settled none disks has_them top.
      let g = walked.goes_behind hd its.header before (first ∷ (between ++ (last ∷ []))) r.moves (at_start r.start)
      (world_from hd r.start) (subst (walked.IsWalked hd its.header r.moves (at_start r.start) (world_from hd r.start)) are k.walked) in
      let e = ends_so hd its.header n first between last [] (world_by hd r) (record r { moves = g.done }) g.left
      (behind (at_start r.start) before)
      (subst (λ j. j ≤ most_events) (ap (λ (ms : List Move). length ms) g.are ∙ length-append g.done g.left) its.few) g.walked
      (ap (λ ms. all_moved ms (world_from hd r.start)) g.are ∙ more_moves g.done g.left (world_from hd r.start)) settled in
      no_record hd its.header r its n (behind (behind (at_start r.start) before) (first ∷ (between ++ (last ∷ [])))) settled.node e
      (w.lines ∙ (λ i. (behind (at_start r.start) k.did).lines ++ none i) ∙ append-nil (behind (at_start r.start) k.did).lines
      ∙ ap (λ ds. (behind (at_start r.start) ds).lines) are
      ∙ ap (λ (z : Past). z.lines) (rounds.behind_on hd its.header (at_start r.start) before (first ∷ (between ++ (last ∷ [])))))
      disks has_them top;
}
  where
    k : walked.Walk hd its.header r.moves (at_start r.start) (world_from hd r.start)
    k = walked.run_walk hd its.header r its

    w : WasWritten r.start (run_events hd r) (journal_by hd r) k.did
    w = walked.run_written hd its.header r its
