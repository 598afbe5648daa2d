-- In every run states are in form, and so are answers and restored values where older states restore: while operations and Uids are in form.
use Rattle.arj_law_parts.proofs.Words
use Words.{◌≡◌, ◌+◌, ◌==◌, ℕ, Bool, true, false, cond, if◌then◌else◌, filter, map, List, [], ◌∷◌, Option, Some, None, refl, subst}
use Words.{⊎_elim, eqb-true, inr, AllByRecursion, Header, ObjectLine, ObjectState}
use Words.{ValueInForm, again_all, begin_action, heard, is_serial, Disk, Do, Effect, Say, Send}
use Words.{stopped, worked, acked, answer_query, tick_outs, Parts, Took, handle, has, with_coord, Node, acts as acts_of, parent_of}
use Words.{parts_in, restart_outs, node_by, Start, Post, Seen, Message, is_meant, numbered, actor, arith, most_labels, ◌<◌}
use Words.body
use Rattle.arj_base.specs.declared.state.Format.TheVariants as format
use Rattle.arj_class.specs.Forms.{FormatHolds}
use Rattle.arj_promise.specs.Runs.{FirstsAreHeld}
use Rattle.arj_law_parts.proofs.moves.EachNode as at_each
use Rattle.arj_law_promise.proofs.Terms
use Terms.{Action, HeaderFits, In, IsGood, IsGoodOf, KeepsAsked, ObjectLineInForm, Own, Up, Walks, all_append}
use Terms.{all_filter, at, disk_by, first_at, given, older_at, posted, restart_silent, said, state_by, states_from, up, walks_both}
use Rattle.arj_law_disk_view.proofs.running.StateEnds.{new_so}
use Rattle.arj_law_disk_view.proofs.running.StateInputs.{acts_so, begins_so}
use Rattle.arj_law_disk_view.proofs.running.StateTicks as ticks
use Rattle.arj_law_promise.proofs.waiting
use waiting.AskedEffects.{acked_quiet, acts_quiet, heard_quiet, query_quiet, tick_quiet}
use waiting.Serving.{quiet_silent}
use Rattle.arj_law_serial.proofs.joint.FormPairs.{none_so, puts_so}
use Rattle.arj_law_cause.proofs.spelled.Saves.{AllSave, AreOpsIn, AreSavedIn, By, F, MessageSaves, NodeSaves, PartsSave, Saved, Store}
use Rattle.arj_law_cause.proofs.spelled.Saves.{UpSaves}
use Rattle.arj_law_cause.proofs.spelled.Saves.{coord_saves, keep, message_saves, stopped_so, worked_so}
use Rattle.arj_law_cause.proofs.forms.Rows.{actor_so}
use Rattle.arj_law_cause.proofs.spelled.Askers.{HaveUids, Such, askers_began, fewer_uids, such_fits}
use Rattle.arj_law_serial.proofs.joint.GivenBytes.{payload_bytes, text_bytes, two_holds}
use Rattle.arj_base.specs.declared.limits.TheConstants.{LAST_VERSION}
use Rattle.arj_law_runs.specs.journal.{Paths.IsAlike}
use Rattle.arj_msg.specs.InForm.{IsLong}
use Rattle.arj_msg.specs.Sendable.{StateSends}
use Rattle.arj_promise.specs.Starts.{IsFormed, IsOlder}
use Rattle.arj_text.proofs.Values.{value_in_form}

-- where operations and Uids are in form
abbrev pub IsReady : Seen → Type 0
IsReady M = AreOpsIn M.sent × HaveUids M.lines

-- older states restore, and first states hold the header's values
abbrev pub FirstsRestore : Header → Start → Type 0
FirstsRestore hd st = AllByRecursion (λ (a : ℕ × ObjectState). StateSends a.1) st.older × FirstsAreHeld hd st.marks

-- so it is of a start that is formed, of a run in form
pub firsts_restore : (hd : Header) (st : Start) → IsFormed hd st → FirstsAreHeld hd st.marks → FirstsRestore hd st
firsts_restore hd st formed held = (each st.older formed.older, held)
  where
    each : (more : List (ℕ × ObjectState)) → AllByRecursion (IsOlder hd st) more → AllByRecursion (λ (a : ℕ × ObjectState). StateSends a.1) more
    each [] all = tt
    each (a ∷ more) all = ((let o = all.0 in o.restores), each more all.1)

-- all is so, and restores where what a run begins with does
abbrev pub SavesWhere : Header → Seen → Type 0
SavesWhere hd M = IsReady M → AreSavedIn (FirstsRestore hd M.start) M

-- ---- nodes

module _ (A : Type 0) where
  abbrev Rest : ℕ → Seen → Type 0
  Rest k M = at_each.EachBut (NodeSaves A) k M × ((p : Post) → In p M.sent → MessageSaves A p.message)

  rest : (k : ℕ) (d : Disk) (live : Option Parts) (M : Seen) → AreSavedIn A (at k d live M) → Rest k M
  rest k d live M all = (at_each.others (NodeSaves A) k d live M all.0, all.1)

  back : (k : ℕ) (d : Disk) (live : Option Parts) (M : Seen) → NodeSaves A (record { number = k; disk = d; live = live }) → Rest k M →
      AreSavedIn A (at k d live M)
  back k d live M its all = (at_each.back (NodeSaves A) k d live M its all.0, all.1)

-- what a node has and does
record Good (A : Type 0) (k : ℕ) (d : Disk) (v : Parts) (outs : List Effect) (M : Seen) : Type 0 where
  store : Store A d
  parts : PartsSave A v
  effects : AllSave A outs
  others : Rest A k M

walk : (hd : Header) (A : Type 0) (e k : ℕ) (outs : List Effect) (v : Parts) (d : Disk) (M : Seen) → (IsReady M → A) →
    (A → Good (FirstsRestore hd M.start) k d v outs M) → Walks (SavesWhere hd) e k outs (Up (SavesWhere hd) k v) d M
walk hd A e k [] v d M ready good = λ r. let g = good (ready r) in
    back (FirstsRestore hd M.start) k d (Some v) M (g.store, g.parts) g.others
walk hd A e k (Do w ∷ es) v d M ready good = (
  λ how r. let g = good (ready (r.0, fewer_uids M.lines (numbered e (body.Halted k ∷ [])) r.1)) in let all = g.effects in
      back (FirstsRestore hd M.start) k (stopped how w d) None M (stopped_so (FirstsRestore hd M.start) how w d all.0 g.store, tt) g.others,
  walk hd A e k es v (worked w d) M ready (λ a. let g = good a in let all = g.effects in record {
    store = worked_so (FirstsRestore hd M.start) w d all.0 g.store;
    parts = g.parts;
    effects = all.1;
    others = g.others;
  }),
)
walk hd A e k (Say b ∷ es) v d M ready good = walk hd A e k es v d (said e (b ∷ []) M)
    (λ r. ready (r.0, fewer_uids M.lines (numbered e (b ∷ [])) r.1)) (λ a. let g = good a in let all = g.effects in
    record { store = g.store; parts = g.parts; effects = all.1; others = g.others })
walk hd A e k (Send to m ∷ es) v d M ready good = λ more quiet.
    walk hd A e k es v d (said e more (posted (record { from = k; to = to; message = m }) M))
    (λ r. ready ((λ p h x b i ends o there is. r.0 p h x b i ends o (inr there) is), fewer_uids M.lines (numbered e more) r.1))
    (λ a. let g = good a in let all = g.effects in let them = g.others in record {
      store = g.store;
      parts = g.parts;
      effects = all.1;
      others = (
        them.0,
        λ p. ⊎_elim
            (λ same. subst (λ (q : Post). MessageSaves (FirstsRestore hd M.start) q.message) same all.0) (λ old. them.1 p old),
      );
    })

-- ---- as a run begins

module _ (hd : Header) (form : HeaderFits hd) (st : Start) (formed : IsFormed hd st) where
  abbrev A : Type 0
  A = FirstsRestore hd st

  abbrev IsFirstHeld : ObjectLine → Type 0
  IsFirstHeld o = (let m = st.marks.states o.x in m.version) ≡ 0 → FormatHolds hd.format o.value

  older_so : (n : ℕ) (more : List (ℕ × ObjectState)) → (A → AllByRecursion (λ (a : ℕ × ObjectState). StateSends a.1) more) →
      AllByRecursion (IsOlder hd st) more → AllByRecursion (Own (Saved A)) (older_at n more)
  older_so n [] all olds = tt
  older_so n (a ∷ more) all olds = by (a.0 == n) (older_so n more (λ yes. (all yes).1) olds.1)
    where
      its : Own (Saved A) a.1
      its = let o = olds.0 in let f = o.form in (((λ yes. (all yes).0), (o.bytes, f.1)), f.2)

      by : (b : Bool) → AllByRecursion (Own (Saved A)) (older_at n more) →
          AllByRecursion (Own (Saved A)) (cond b (a.1 ∷ older_at n more) (older_at n more))
      by true ih = (its, ih)
      by false ih = ih

  values_so : (os : List ObjectLine) → AllByRecursion (ObjectLineInForm hd.nodes) os → (A → AllByRecursion IsFirstHeld os) →
      AllByRecursion (Own (Saved A)) (map (λ (o : ObjectLine). state_by hd.format (let m = st.marks in m.states o.x) o) os)
  values_so [] all held = tt
  values_so (o ∷ os) all held = (
    (
      (
        (λ yes. (o.value, refl, its, by (held yes).0 (let m = st.marks.states o.x in m.version == 0) refl, refl)),
        (
          payload_bytes o.value (text_bytes o.value (let f = all.0 in f.value)),
          room (let m = st.marks.states o.x in m.version) (formed.short o.x),
        ),
      ),
      (formed.writers o.x).0,
    ),
    values_so os all.1 (λ yes. (held yes).1),
  )
    where
      its : ValueInForm o.value
      its = value_in_form o.value (let f = all.0 in f.value)

      room : (v : ℕ) → v + most_labels < LAST_VERSION → IsLong v
      room v less = omega (arith, less)

      by : IsFirstHeld o → (b : Bool) → (let m = st.marks.states o.x in m.version == 0) ≡ b →
          FormatHolds (if b then hd.format else format.Two) o.value
      by first true e = first (eqb-true (let m = st.marks.states o.x in m.version) 0 e)
      by first false e = two_holds o.value its

  disk_so : (n : ℕ) → Store A (disk_by hd st n)
  disk_so n = record {
    held = puts_so (Saved A) (states_from n hd st) [] (all_append (Own (Saved A)) (older_at n st.older)
        (map (λ (o : ObjectLine). state_by hd.format (let m = st.marks in m.states o.x) o) (filter (λ (o : ObjectLine). has o.stores n) hd.objects))
        (older_so n st.older (λ yes. yes.0) formed.older) (values_so (filter (λ (o : ObjectLine). has o.stores n) hd.objects)
        (all_filter (ObjectLineInForm hd.nodes) (λ (o : ObjectLine). has o.stores n) hd.objects (let f = form.objects in f.0))
        (λ yes. all_filter IsFirstHeld (λ (o : ObjectLine). has o.stores n) hd.objects yes.1)))
        (none_so (Saved A));
    pend = tt;
  }

  first_so : (n : ℕ) → NodeSaves A (node_by hd st n)
  first_so n = (disk_so n, by (st.up n))
    where
      by : (b : Bool) → UpSaves A (if b then Some (parts_in n (st.incs n + 1) (disk_by hd st n)) else None)
      by true = ((tt, tt), new_so (F A) (keep A) n (st.incs n + 1) [])
      by false = tt

-- ---- in every run

-- beside what is kept by every handler
pub saves_keep : (hd : Header) → HeaderFits hd → (R : Seen → Type 0) → KeepsAsked hd R → ((M : Seen) → R M → IsGood M) →
    ((M : Seen) → R M → IsAlike M) → KeepsAsked hd (λ M. R M × SavesWhere hd M)
saves_keep hd form R keeps good alike = record {
  quiet = λ e bs M quiet g. (keeps.quiet e bs M quiet g.0, λ r. g.1 (r.0, fewer_uids M.lines (numbered e bs) r.1));
  stop = λ e k d live M g. (
    keeps.stop e k d live M g.0,
    λ r. let all = g.1 (r.0, fewer_uids M.lines (numbered e (body.Halted k ∷ [])) r.1) in
        let o = at_each.own (NodeSaves (FirstsRestore hd M.start)) k d live M all.0 in
        back (FirstsRestore hd M.start) k d None M (o.0, tt) (rest (FirstsRestore hd M.start) k d live M all),
  );
  message = λ e k d t v from m outs M g there meant is. let b = good (up k d t M) g.0 in
      beside e k outs v d M (keeps.message e k d t v from m outs M g.0 there meant is)
      (walk hd (IsReady M) e k outs v d M (λ r. r)
      (λ r. came e k d t v from m outs M b.0 b.1 (alike (up k d t M) g.0) r (g.1 r) there meant is));
  act = λ e k d t i M is asks_node_so free g. let did = acts_of i d.intents t.coord in let b = good (up k d t M) g.0 in
      beside e k did.outs (with_coord t did.part) d M (keeps.act e k d t i M is asks_node_so free g.0)
      (walk hd (IsReady M) e k did.outs (with_coord t did.part) d M (λ r. r) (λ r.
      let all = g.1 r in let o = at_each.own (NodeSaves (FirstsRestore hd M.start)) k d (Some t) M all.0 in let p = o.1 in
      let a = acts_so (F (FirstsRestore hd M.start)) (keep (FirstsRestore hd M.start)) i d.intents t.coord p.1 in
      record {
        store = o.0;
        parts = (p.0, a.0);
        effects = coord_saves (FirstsRestore hd M.start) did.outs a.1 (quiet_silent did.outs (acts_quiet b.0 e k d t M b.1 hd i is free));
        others = rest (FirstsRestore hd M.start) k d (Some t) M all;
      }));
  begin = λ e k d t l how parent M new may free g. let did = begin_action l how parent (parent_of parent t.coord) t.coord in
      let N = given l (record { node = k; serial = is_serial how }) M in
      beside e k did.outs (with_coord t did.part) d N (keeps.begin e k d t l how parent M new may free g.0)
      (walk hd (IsReady M) e k did.outs (with_coord t did.part) d N (λ r. r) (λ r.
      let all = g.1 r in let o = at_each.own (NodeSaves (FirstsRestore hd M.start)) k d (Some t) M all.0 in let p = o.1 in
      let a = begins_so (F (FirstsRestore hd M.start)) (keep (FirstsRestore hd M.start)) l how parent
      (parent_of parent t.coord) t.coord p.1 in
      record { store = o.0; parts = (p.0, a.0); effects = (tt, tt); others = rest (FirstsRestore hd M.start) k d (Some t) M all }));
  tick = λ e k d t M g. let b = good (up k d t M) g.0 in
      let y : Node = record { number = k; disk = d; live = Some t } in
      beside e k (tick_outs y t) (with_coord t (again_all t.coord.doings t.coord).part) d M (keeps.tick e k d t M g.0)
      (walk hd (IsReady M) e k (tick_outs y t) (with_coord t (again_all t.coord.doings t.coord).part) d M (λ r. r) (λ r.
      let all = g.1 r in let o = at_each.own (NodeSaves (FirstsRestore hd M.start)) k d (Some t) M all.0 in let p = o.1 in
      let a = ticks.tick_so (F (FirstsRestore hd M.start)) (keep (FirstsRestore hd M.start)) y t p.1 in
      record {
        store = o.0;
        parts = (p.0, a.0);
        effects = coord_saves (FirstsRestore hd M.start) (tick_outs y t) a.1 (quiet_silent (tick_outs y t) (tick_quiet b.0 e k d t M b.1));
        others = rest (FirstsRestore hd M.start) k d (Some t) M all;
      }));
  restart = λ e k d M g. let outs = restart_outs hd k (d.inc + 1) d in
      beside e k outs (parts_in k (d.inc + 1) d) d M (keeps.restart e k d M g.0)
      (walk hd (IsReady M) e k outs (parts_in k (d.inc + 1) d) d M (λ r. r) (λ r.
      let all = g.1 r in let o = at_each.own (NodeSaves (FirstsRestore hd M.start)) k d None M all.0 in
      record {
        store = o.0;
        parts = ((tt, tt), new_so (F (FirstsRestore hd M.start)) (keep (FirstsRestore hd M.start)) k (d.inc + 1) d.intents);
        effects = coord_saves (FirstsRestore hd M.start) outs
            (ticks.restart_so (F (FirstsRestore hd M.start)) (keep (FirstsRestore hd M.start)) hd k d) (restart_silent hd k (d.inc + 1) d);
        others = rest (FirstsRestore hd M.start) k d None M all;
      }));
  first = λ st formed. (
    keeps.first st formed,
    λ r. (
      λ j n is. subst (NodeSaves (FirstsRestore hd st)) (first_at hd st j n is) (first_so hd form st formed j),
      λ p no_way. absurd no_way,
    ),
  );
}
  where
    beside : (e k : ℕ) (outs : List Effect) (v : Parts) (d : Disk) (M : Seen) → Walks R e k outs (Up R k v) d M →
        Walks (SavesWhere hd) e k outs (Up (SavesWhere hd) k v) d M →
        Walks (λ N. R N × SavesWhere hd N) e k outs (Up (λ N. R N × SavesWhere hd N) k v) d M
    beside e k outs v d M a b = walks_both R (SavesWhere hd) e k outs (Up R k v) (Up (SavesWhere hd) k v) d M a b

    came : (e k : ℕ) (d : Disk) (t v : Parts) (from : ℕ) (m : Message) (outs : List Effect) (M : Seen) (begun : List Action) →
        IsGoodOf begun (up k d t M) → IsAlike (up k d t M) → IsReady M → AreSavedIn (FirstsRestore hd M.start) (up k d t M) →
        In (record { from = from; to = k; message = m }) M.sent → is_meant t m ≡ true → handle k d t from m ≡ Took v outs →
        Good (FirstsRestore hd M.start) k d v outs M
    came e k d t v from m outs M begun its likes r all there meant is =
        let o = at_each.own (NodeSaves (FirstsRestore hd M.start)) k d (Some t) M all.0 in
        let p : Post = record { from = from; to = k; message = m } in
        let h = subst (By (FirstsRestore hd M.start) k d t from o.0 o.1) is
        (message_saves (FirstsRestore hd M.start) k d t from o.0 o.1 m (all.1 p there)
        (λ h x b i ends op same. r.0 p h x b i ends op there same)
        (λ h a same. such_fits M.lines r.1 (actor h.path)
        (actor_so (Such M.lines) (inr refl) h.path (askers_began (up k d t M) likes p h a there same)))
        (λ a q. quiet_silent (heard from a q d.intents t.coord).outs (heard_quiet begun e k d t M its from a q))
        (λ u. quiet_silent (acked from u d.intents t.coord).outs (acked_quiet begun e k d t M its from u))
        (λ u. quiet_silent (answer_query from u d.intents t.coord) (query_quiet begun e k d t M its from u)) meant) in
        record { store = o.0; parts = h.0; effects = h.1; others = rest (FirstsRestore hd M.start) k d (Some t) M all }
