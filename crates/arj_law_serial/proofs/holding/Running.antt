-- Each handler keeps what tables show, from any world on, beside what is known in every run.
use Rattle.arj_law_parts.proofs.Words
use Words.{◌≡◌, ◌∙◌, ◌==◌, ◌&&◌, ◌++◌, ◌+◌, ℕ, List, [], ◌∷◌, map, true, Some, None, refl, sym, ap, subst, eqb-true, ⊤, if◌then◌else◌}
use Words.{list_all, and_parts, Header, again_all, begin_action, Disk, Effect, Look, PutInc, stopped, tick_outs, Parts, holders}
use Words.{query_about, with_coord, AreAll, is_coord_effect, is_coord_line, Node, acts as does, parent_of, parts_in, restart_outs}
use Words.{tolds_again, numbered, acts_own, again_own, map_own, tolds_again_own, all_both, Seen, is_serial}
use Words.body
use Words.input
use Rattle.arj_law_serial.proofs.Terms
use Terms.{acts, Action, KeepsFrom, down, given, said, up, Up, Walks, walks_both, walks_to, AreAlike, its_acts, IsPathedOf, act_pathed}
use Terms.{message_pathed, live_in, up_of, KeepsOf, begins_in}
use Rattle.arj_law_runs.proofs.journal.Paths.{begin_pathed, quiet_pathed, restart_pathed, stop_pathed, tick_pathed}
use Rattle.arj_law_serial.proofs.holding
use holding.{Facts.Facts, Facts.facts_of, Messages.message_shown, Sorts.is_of}
use holding.Keeping.{Others, Own, Shown, coord_of, coord_shown, others_of, others_say, quiet_shown, shown_walk, stop_kept, stop_shown}
use holding.Lines.{itself, never, since_last, ups_on}
use holding.Says.{All, kind_says, restart_says, says}

-- what is known in every run, of the actions that were begun
abbrev pub Known : List Action → Seen → Type 0
Known begun M = IsPathedOf begun M × Facts begun M

-- the effects behind the first three
abbrev pub behind_three : List Effect → List Effect
behind_three (a ∷ b ∷ c ∷ es) = es
behind_three es = es

pub node_there : (M : Seen) (k : ℕ) (n : Node) → (if k == k then Some n else M.nodes k) ≡ Some n
node_there M k n = λ i. if itself k i then Some n else M.nodes k

module _ (hd : Header) (first event : ℕ) where
  abbrev facts : KeepsOf hd (λ begun M. ⊤) Facts
  facts = facts_of hd

  -- and what tables show
  abbrev pub Showing : Seen → Type 0
  Showing M = (begun : List Action) × Known begun M × Shown first event M

  both_walk : (begun : List Action) (e k : ℕ) (outs : List Effect) (v : Parts) (d : Disk) (N : Seen) →
      Walks (IsPathedOf begun) e k outs (Up (IsPathedOf begun) k v) d N → Walks (Facts begun) e k outs (Up (Facts begun) k v) d N
      → Walks (Shown first event) e k outs (Up (Shown first event) k v) d N → Walks Showing e k outs (Up Showing k v) d N
  both_walk begun e k outs v d N a b c =
      let ab = walks_both (IsPathedOf begun) (Facts begun) e k outs (Up (IsPathedOf begun) k v) (Up (Facts begun) k v) d N a b in
      let abc = walks_both (Known begun) (Shown first event) e k outs (λ x Z. Up (IsPathedOf begun) k v x Z × Up (Facts begun) k v x Z)
      (Up (Shown first event) k v) d N ab c in
      walks_to (λ Z. Known begun Z × Shown first event Z) Showing e k outs (λ x Z. (Up (IsPathedOf begun) k v x Z × Up (Facts begun) k v x
      Z) × Up (Shown first event) k v x Z) (Up Showing k v) d N (λ Z h. (begun, h.0, h.1)) (λ x Z h. (begun, h.0, h.1)) abc

  -- the journal's actions are those that were begun
  pub alike_of : (begun : List Action) (M : Seen) → IsPathedOf begun M → AreAlike begun (acts M.lines)
  alike_of begun M h = let w = h.1.2 in subst (AreAlike begun) (its_acts M.lines w.right) h.1.1

  pub coord_all : (k : ℕ) (outs : List Effect) → AreAll is_coord_effect outs → All (is_of k) outs
  coord_all k outs = kind_says (is_of k) is_coord_effect is_coord_line (λ b. refl) (coord_of k) outs

  -- what a restart says is of its node
  pub restart_of : (k inc : ℕ) (d : Disk) → All (is_of k) (restart_outs hd k inc d)
  restart_of k inc d =
      restart_says (is_of k) hd k inc d (coord_of k) (λ one u o how. ap (λ j. 1 == j) (eqb-true k 1 one) ∙ refl) (λ u. refl) (itself k)

  module _ (e k : ℕ) (d : Disk) where
    -- a restart: behind its start nothing is shown of the node
    restart_shown : (M : Seen) → Shown first event (down k d M) →
        Walks (Shown first event) e k (restart_outs hd k (d.inc + 1) d) (Up (Shown first event) k (parts_in k (d.inc + 1) d)) d M
    restart_shown M h = (
      (λ how. stop_shown first event e k (stopped how Look d) M others),
      (
        (λ how. stop_shown first event e k (stopped how (PutInc (d.inc + 1)) d) M others),
        shown_walk first event e k v rest (record d { inc = d.inc + 1 }) (said e (body.Up k (d.inc + 1) ∷ []) M)
            (and_parts (k == k) (list_all (says (is_of k)) rest) all).1
            (others_say first event e k (body.Up k (d.inc + 1) ∷ []) M (λ i. itself k i && true) others) own,
      ),
    )
      where
        others : Others first event e k M
        others = others_of first event e k d None M h

        v : Parts
        v = parts_in k (d.inc + 1) d

        rest : List Effect
        rest = behind_three (restart_outs hd k (d.inc + 1) d)

        all : All (is_of k) (restart_outs hd k (d.inc + 1) d)
        all = restart_of k (d.inc + 1) d

        own : Own first event e k v (behind_three (restart_outs hd k (d.inc + 1) d)) (let L = said e (body.Up k (d.inc + 1) ∷ []) M in
            L.lines)
        own since off =
            let same : e ≡ event = since_last event first e (body.Up k (d.inc + 1)) M.lines (let o = others in o.long) since in
            never (event == event) (itself event)
            ((λ i. event == sym same i) ∙ (λ i. event == (if sym (itself k) i then e else up_of k M.lines))
            ∙ (λ i. event == sym (ups_on k 0 M.lines (numbered e (body.Up k (d.inc + 1) ∷ []))) i) ∙ off)

  pub showing_kept : (F : Type 0) → F → KeepsFrom hd F Showing
  showing_kept F at_first = record {
    quiet = λ e bs M quiet h. (
      h.0,
      (quiet_pathed hd h.0 e bs M quiet h.1.0, facts.quiet h.0 e bs M quiet tt h.1.0.1.0 h.1.1),
      quiet_shown first event e bs M quiet h.2,
    );
    stop = λ e k d live M h. (
      h.0,
      (stop_pathed hd h.0 e k d live M h.1.0, facts.stop h.0 e k d live M tt h.1.0.1.0 h.1.1),
      stop_kept first event e k d live M h.2,
    );
    message = λ e k d t v from m outs M h there meant is.
        let begun = h.0 in
        let good = h.1.0.1.0 in
        let n : Node = record { number = k; disk = d; live = Some t } in
        let past = h.1.1.0.0 in
        let place = (let q = past.nodes k n (node_there M k n) in let l = q.live t refl in l.place) in
        both_walk begun e k outs v d M (message_pathed hd begun e k d t v from m outs M h.1.0 there meant is)
        (facts.message begun e k d t v from m outs M tt good h.1.1 there meant is)
        (message_shown first event e k d t v M begun good.begun h.1.1.0.1 (alike_of begun (up k d t M) h.1.0) place from m outs
        (λ j. live_in ((up k d t M).nodes j)) (good.fits (record { from = from; to = k; message = m }) there)
        (past.posts (record { from = from; to = k; message = m }) there) is h.2);
    act = λ e k d t i M is asks none h.
        let begun = h.0 in
        let did = does i d.intents t.coord in
        let own = acts_own i d.intents t.coord in
        both_walk begun e k did.outs (with_coord t did.part) d M (act_pathed hd begun e k d t i M is none h.1.0)
        (facts.act begun e k d t i M is none tt h.1.0.1.0 h.1.1)
        (coord_shown first event e k d t (with_coord t did.part) did.outs M M refl refl own (coord_all k did.outs own) refl refl h.2);
    begin = λ e k d t l how parent M new may none h.
        let begun = h.0 in
        let did = begin_action l how parent (parent_of parent t.coord) t.coord in
        let own = acts_own (input.Begin l how parent) d.intents t.coord in
        let N = given l (record { node = k; serial = is_serial how }) M in
        both_walk (begins_in how parent t ∷ begun) e k did.outs (with_coord t did.part) d N (begin_pathed hd begun e k d t l how parent M
        new may none h.1.0) (facts.begin begun e k d t l how parent M new may none tt h.1.0.1.0 h.1.1)
        (coord_shown first event e k d t (with_coord t did.part) did.outs M N refl refl own (coord_all k did.outs own) refl refl h.2);
    tick = λ e k d t M h.
        let begun = h.0 in
        let n : Node = record { number = k; disk = d; live = Some t } in
        let r = again_all t.coord.doings t.coord in
        let own = all_both is_coord_effect (r.outs ++ tolds_again t.coord.telling) (map query_about (holders d t)) (all_both is_coord_effect
        r.outs (tolds_again t.coord.telling) (again_own t.coord.doings t.coord) (tolds_again_own t.coord.telling))
        (map_own query_about (holders d t) (λ u. refl)) in
        both_walk begun e k (tick_outs n t) (with_coord t r.part) d M (tick_pathed hd begun e k d t M h.1.0)
        (facts.tick begun e k d t M tt h.1.0.1.0 h.1.1)
        (coord_shown first event e k d t (with_coord t r.part) (tick_outs n t) M M refl refl own (coord_all k (tick_outs n t) own) refl refl
        h.2);
    restart = λ e k d M h.
        let begun = h.0 in
        both_walk begun e k (restart_outs hd k (d.inc + 1) d) (parts_in k (d.inc + 1) d) d M (restart_pathed hd begun e k d M h.1.0)
        (facts.restart begun e k d M tt h.1.0.1.0 h.1.1) (restart_shown e k d M h.2);
    first = at_first;
  }
