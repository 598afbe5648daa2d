-- An acknowledgement, walked through at the coordinator.
use Rattle.arj_law_parts.proofs.Words
use Words.{◌≡◌, ◌≢◌, ◌⊎◌, ℕ, ◌==◌, ◌&&◌, ◌||◌, List, [], ◌∷◌, Bool, true, false, Option, Some, None, refl, sym, ◌∙◌, ap, subst, inl, inr}
use Words.{⊎_elim, append-nil, if◌then◌else◌, not, is_some, uid_cases, uid_isnt, Uid, End, Kind, uid_eq, first_uid, Coord, root_at}
use Words.{nodes_sent, Disk, RemoveIntent, Before, After, InPart, Intent, acked_left, is_deferred, let_go, tell_all, tolds_let_go, Parts}
use Words.{with_coord, at_uid, put_uid, without_uid, uid_number, without_number, Node, Branch, branch_of, is_open}
use Words.{is_open_branch, root_of, number_tells, Seen, is_constituent}
use Words.ending
use Words.kind
use Words.order
use Rattle.arj_law_disk_view.proofs.Terms
use Terms.{is_over, World, Allowed, after, is_gone, In, never, never_some, some_is, put_same, put_other, test_same, test_is, not_true, up}
use Terms.{Walks, Stops, Up, SeesRecords, Stills, nodes_of, KnowsKinds, KnowsCoord, IsOfKind, IsOpenSerial, Kinds, IsFuture, SeesDisks}
use Terms.{SeesCoord, SeesNotes, IsSettled, IsSeenByDisks, is_awaited_by}
use Terms.machine
use Terms.mail
use Terms.disk
use Rattle.arj_law_disk.proofs.machine.Base.{and_left}
use Rattle.arj_law_disk_view.proofs.view
use view.{ActionAborts.serial_over, Ended.calm_seen, Halts.stops_seen, HeardWalks.coord_seen, Later.effects_are_later, Notes.notes_later}
use view.DecidingSteps.{actions_may_halt, record_is_removed}
use view.Frames.{node_here, coord_same, works_same}
use view.TellWalks.{SerialOver, Goes, serial}
use view.TopFrames.{apart_number, branch_at, not_future}
use Rattle.arj_law_disk_view.specs.view.Coordinating.{AcksAreTaken}
use Rattle.arj_law_disk_view.proofs.view.Keys as keys

-- ---- an action that is over may be let go again

pub halts_again : (x k : ℕ) (tops : Kinds) (W : World) (M : Seen) (d : Disk) (t : Parts) (u : Uid) → SeesDisks x tops W (up k d t M) →
    u.node ≡ k → is_open u t.coord.tree ≡ false → (IsFuture t.coord u → ⊥) →
    SeesDisks x tops (after W (machine.Halt (uid_number u))) (up k d t M)
halts_again x k tops W M d t u s here closed past = calm_seen x k tops W M d t u (machine.Halt (uid_number u)) d.intents t.coord s here tt
    refl halts.0 refl stages (λ w other. refl) halts.1 (λ m n apart r. record { sorted = r.sorted; own = r.own; is = r.is }) coord
    (notes_later x W V (effects_are_later W (machine.Halt (uid_number u) ∷ []) (tt, tt) s.whole) d.intents t.coord (s.notes k
    (record { number = k; disk = d; live = Some t }) t (node_here M k (record { number = k; disk = d; live = Some t })) refl))
  where
    V : World
    V = after W (machine.Halt (uid_number u))

    mine : SeesCoord x k d.inc tops t.coord W.disk
    mine =
        s.coords k (record { number = k; disk = d; live = Some t }) t (node_here M k (record { number = k; disk = d; live = Some t })) refl

    halts : Stills W (machine.Halt (uid_number u)) × SeesRecords k d.intents (after W (machine.Halt (uid_number u))).disk
    halts = actions_may_halt k W (uid_number u) d.intents
        (s.records k (record { number = k; disk = d; live = Some t }) (node_here M k (record { number = k; disk = d; live = Some t })))

    stages : (w : Uid) → w ≢ u → (after W (machine.Halt (uid_number u))).disk.stage (uid_number w) ≡ W.disk.stage (uid_number w)
    stages w other = put_other (uid_number u) disk.Gone W.disk.stage (uid_number w) (apart_number u w other)

    coord : SeesCoord x k d.inc tops t.coord (after W (machine.Halt (uid_number u))).disk
    coord = record {
      node = mine.node;
      present = mine.present;
      working =
          λ w z q there unended does. works_same x tops W.disk (after W (machine.Halt (uid_number u))).disk (uid_number w) z.kind q.now
          (stages w (λ same. never (ap is_open_branch there ∙ ap (λ (o : Option End). not (is_some o)) unended)
          (ap (λ a. is_open a t.coord.tree) same ∙ closed))) refl refl refl (mine.working w z q there unended does);
      closed = λ w at over began. ⊎_elim (λ same. ap (λ a. is_gone ((after W (machine.Halt (uid_number u))).disk.stage (uid_number a))) same
          ∙ ap is_gone (put_same (uid_number u) disk.Gone W.disk.stage))
          (λ other. ap is_gone (stages w other) ∙ mine.closed w at over began) (uid_cases w u);
      future = λ w at later. stages w (λ same. past (subst (λ a. IsFuture t.coord a) same later)) ∙ mine.future w at later;
      bare = mine.bare;
    }

-- ---- roots

-- the root of an open constituent is an open serializing action
pub open_root : (tops : Kinds) (intents : List (Uid × Intent)) (c : Coord) (w r : Uid) → KnowsCoord tops intents c →
    is_open w c.tree ≡ true → tops.is_top (uid_number w) ≡ true → tops.root (uid_number w) ≡ uid_number r → w ≢ r → IsOpenSerial c r
open_root tops intents c w r knows o top root apart = by (branch_of w c.tree) refl o
  where
    by_kind : (z : Branch) → branch_of w c.tree ≡ Some z → z.ended ≡ None → root_of z.path ≡ r → (kd : Kind) → z.kind ≡ kd →
        IsOfKind tops w kd z.path → IsOpenSerial c r
    by_kind z is unended of kind.Nested kd p = absurd (never top p.0)
    by_kind z is unended of kind.Serial kd p = absurd (never top p.0)
    by_kind z is unended of kind.Top kd p = absurd (apart (ap first_uid (sym p.2) ∙ of))
    by_kind z is unended of kind.Independent kd p = absurd (apart (ap first_uid (sym p.2) ∙ of))
    by_kind z is unended of kind.Constituent kd p = subst (λ a. IsOpenSerial c a) of (knows.above w z is unended (ap is_constituent kd))

    not_ended : (o : Option End) → not (is_some o) ≡ true → o ≡ None
    not_ended None h = refl
    not_ended (Some how) h = absurd (cc h)

    by : (g : Option Branch) → branch_of w c.tree ≡ g → is_open_branch g ≡ true → IsOpenSerial c r
    by None is h = absurd (cc h)
    by (Some z) is h = by_kind z is (not_ended z.ended h) (number_tells (root_of z.path) r (sym (knows.root w z is top) ∙ root)) z.kind
        refl (knows.kind w z is)

-- ---- lists of numbers

without_has : (n m : ℕ) (ns : List ℕ) → order.has ns m ≡ true → (m ≡ n) ⊎ (order.has (without_number n ns) m ≡ true)
without_has n m [] on = absurd (cc on)
without_has n m (k ∷ ks) on = by (k == n) refl (without_has n m ks)
  where
    by : (b : Bool) → (k == n) ≡ b → (order.has ks m ≡ true → (m ≡ n) ⊎ (order.has (without_number n ks) m ≡ true)) →
        (m ≡ n) ⊎ (order.has (if not b then k ∷ without_number n ks else without_number n ks) m ≡ true)
    by b same ih = first b same (k == m) refl on
      where
        first : (b : Bool) → (k == n) ≡ b → (c : Bool) → (k == m) ≡ c → (c || order.has ks m) ≡ true →
            (m ≡ n) ⊎ (order.has (if not b then k ∷ without_number n ks else without_number n ks) m ≡ true)
        first true same true is h = inl (sym (test_is k m is) ∙ test_is k n same)
        first true same false is h = ih h
        first false same true is h = inr (ap (λ c. c || order.has (without_number n ks) m) is)
        first false same false is h = ⊎_elim (λ e. inl e) (λ more. inr (ap (λ c. c || order.has (without_number n ks) m) is ∙ more)) (ih h)

-- ---- the acknowledgement

module _ (x : ℕ) (tops : Kinds) (e k : ℕ) (d : Disk) (t : Parts) (from : ℕ) (act : Uid) (i : Intent) (M : Seen) (kinds : KnowsKinds tops)
    (knows : KnowsCoord tops d.intents t.coord) (told : at_uid act t.coord.telling ≡ Some i)
    (W : World) (sees : SeesDisks x tops W (up k d t M)) (acked : In (mail.Acked (uid_number act) from) W.sent) where
  abbrev P : Seen → Type 0
  P = IsSeenByDisks x tops

  mine : SeesCoord x k d.inc tops t.coord W.disk
  mine =
      sees.coords k (record { number = k; disk = d; live = Some t }) t (node_here M k (record { number = k; disk = d; live = Some t })) refl

  -- who isn't left has acknowledged
  left_or : (m : ℕ) → (is_awaited_by m (at_uid act t.coord.telling) ≡ true) ⊎ In (mail.Acked (uid_number act) m) W.sent →
      (order.has (without_number from i.nodes) m ≡ true) ⊎ In (mail.Acked (uid_number act) m) W.sent
  left_or m (inr a) = inr a
  left_or m (inl on) = ⊎_elim (λ same. inr (subst (λ n. In (mail.Acked (uid_number act) n) W.sent) (sym same) acked)) (λ more. inl more)
      (without_has from m i.nodes (ap (is_awaited_by m) (sym told) ∙ on))

  -- somebody is left
  abbrev Fewer : List ℕ → Coord
  Fewer ns = record t.coord { telling = put_uid act (record i { nodes = ns }) t.coord.telling }

  fewer_seen : (ns : List ℕ) → without_number from i.nodes ≡ ns → SeesDisks x tops W (up k d (with_coord t (Fewer ns)) M)
  fewer_seen ns is = coord_seen x k tops W M d t t.coord (Fewer ns)
      (λ h. record { node = h.node; present = h.present; working = h.working; closed = h.closed; future = h.future; bare = h.bare })
      (λ n. record {
        settled = λ u j there. ⊎_elim (λ o. inl o) (λ s. inr (settled u j s (uid_cases u act))) (n.settled u j there);
        taken = n.taken;
        roots = n.roots;
        plans = n.plans;
      }) sees
    where
      settled : (u : Uid) (j : Intent) → IsSettled u j t.coord.telling W → (u ≡ act) ⊎ (u ≢ act) → IsSettled u j (Fewer ns).telling W
      settled u j s (inr other) = record {
        done = s.done;
        awaited = λ m on. ⊎_elim (λ a. inl (ap (is_awaited_by m) (keys.put_other u act (record i { nodes = ns }) t.coord.telling other)
            ∙ a)) (λ a. inr a) (s.awaited m on);
      }
      settled u j s (inl same) = record {
        done = s.done;
        awaited = λ m on. ⊎_elim
            (λ more. inl (ap (λ a. is_awaited_by m (at_uid a (Fewer ns).telling)) same ∙ ap (is_awaited_by m)
            (keys.put_same act (record i { nodes = ns }) t.coord.telling) ∙ (λ z. order.has (sym is z) m) ∙ more))
            (λ a. inr (subst (λ w. In (mail.Acked (uid_number w) m) W.sent) (sym same) a))
            (left_or m (subst (λ w. (is_awaited_by m (at_uid w t.coord.telling) ≡ true) ⊎ In (mail.Acked (uid_number w) m) W.sent) same
            (s.awaited m on)));
      }

  by_left : ((none : without_number from i.nodes ≡ []) →
      Walks P e k (acked_left act i d.intents t.coord []).outs (Up P k (with_coord t (acked_left act i d.intents t.coord []).part)) d M)
      → (ns : List ℕ) → without_number from i.nodes ≡ ns → let r = acked_left act i d.intents t.coord ns in
      Walks P e k r.outs (Up P k (with_coord t r.part)) d M
  by_left last [] is = last is
  by_left last (n ∷ ns) is = (W, fewer_seen (n ∷ ns) is)

-- ---- the last acknowledgement

module _ (x : ℕ) (tops : Kinds) (e k : ℕ) (d : Disk) (t : Parts) (from : ℕ) (act : Uid) (i : Intent) (M : Seen) (kinds : KnowsKinds tops)
    (knows : KnowsCoord tops d.intents t.coord) (told : at_uid act t.coord.telling ≡ Some i)
    (W : World) (sees : SeesDisks x tops W (up k d t M)) (acked : In (mail.Acked (uid_number act) from) W.sent)
    (none : without_number from i.nodes ≡ []) where
  abbrev Q : Seen → Type 0
  Q = IsSeenByDisks x tops

  abbrev Done : Coord
  Done = record t.coord { telling = without_uid act t.coord.telling }

  abbrev d1 : Disk
  d1 = record d { intents = without_uid act d.intents }

  abbrev j : Intent
  j = (knows.awaited act i told).0

  mine_now : SeesCoord x k d.inc tops t.coord W.disk
  mine_now =
      sees.coords k (record { number = k; disk = d; live = Some t }) t (node_here M k (record { number = k; disk = d; live = Some t })) refl

  records_now : SeesRecords k d.intents W.disk
  records_now =
      sees.records k (record { number = k; disk = d; live = Some t }) (node_here M k (record { number = k; disk = d; live = Some t }))

  notes_now : SeesNotes x d.intents t.coord W
  notes_now =
      sees.notes k (record { number = k; disk = d; live = Some t }) t (node_here M k (record { number = k; disk = d; live = Some t })) refl

  there : at_uid act d.intents ≡ Some j
  there = (knows.awaited act i told).1

  here : act.node ≡ k
  here = records_now.own act j there

  all_acked : (m : ℕ) → order.has j.nodes m ≡ true → In (mail.Acked (uid_number act) m) W.sent
  all_acked m on = ⊎_elim (λ o. absurd (never_some there (knows.unrecorded act o)))
      (λ (s : IsSettled act j t.coord.telling W). ⊎_elim (λ more. absurd (nobody m (ap (λ ns. order.has ns m) (sym none) ∙ more))) (λ a. a)
      (left_or x tops e k d t from act i M kinds knows told W sees acked m (s.awaited m on)))
      (notes_now.settled act j there)
    where
      nobody : (m : ℕ) → order.has [] m ≡ true → ⊥
      nobody m on = cc on

  abbrev V : World
  V = after W (machine.Remove (uid_number act) j.nodes)

  removed : Allowed W (machine.Remove (uid_number act) j.nodes) × Stills W (machine.Remove (uid_number act) j.nodes)
      × SeesRecords k (without_uid act d.intents) (after W (machine.Remove (uid_number act) j.nodes)).disk
  removed = record_is_removed k W act j d.intents records_now there all_acked

  others : (m : ℕ) (n : Node) → (m == k) ≡ false → SeesRecords m n.disk.intents W.disk → SeesRecords m n.disk.intents V.disk
  others m n apart s = record {
    sorted = s.sorted;
    own = s.own;
    is = λ w at. put_other (uid_number act) None W.disk.intent (uid_number w) (apart_number act w
        (λ same. never (ap (λ z. z == k) (sym at ∙ ap (λ (z : Uid). z.node) same ∙ here) ∙ test_same k) apart)) ∙ s.is w at;
  }

  left_there : (u : Uid) (q : Intent) → at_uid u (without_uid act d.intents) ≡ Some q → (u ≢ act) × (at_uid u d.intents ≡ Some q)
  left_there u q is = ⊎_elim (λ same. absurd (never_some is (ap (λ a. at_uid a (without_uid act d.intents)) same ∙ keys.without_same act
      d.intents records_now.sorted))) (λ other. (other, sym (keys.without_other u act d.intents other) ∙ is)) (uid_cases u act)

  noted : SeesNotes x (without_uid act d.intents) Done V
  noted =
      let n : SeesNotes x d.intents t.coord V = notes_later x W V
      (effects_are_later W (machine.Remove (uid_number act) j.nodes ∷ []) (removed.0, tt) sees.whole) d.intents t.coord notes_now in
      record {
        settled = λ u q is. let was = left_there u q is in ⊎_elim (λ o. inl o)
            (λ (s : IsSettled u q t.coord.telling V). inr (record {
              done = s.done;
              awaited = λ m on. ⊎_elim (λ a. inl (ap (is_awaited_by m) (keys.without_other u act t.coord.telling was.0) ∙ a)) (λ a. inr a)
                  (s.awaited m on);
            }))
            (n.settled u q was.1);
        taken = n.taken;
        roots = n.roots;
        plans = n.plans;
      }

  coord_now : SeesCoord x k d.inc tops Done V.disk
  coord_now = let h : SeesCoord x k d.inc tops t.coord V.disk = coord_same x k d.inc tops t.coord W.disk V.disk refl refl refl refl refl
      mine_now in record { node = h.node; present = h.present; working = h.working; closed = h.closed; future = h.future; bare = h.bare }

  seen1 : SeesDisks x tops V (up k d1 (with_coord t Done) M)
  seen1 = calm_seen x k tops W M d t act (machine.Remove (uid_number act) j.nodes) (without_uid act d.intents) Done sees here removed.0 refl
      removed.1 refl (λ w other. refl) (λ w other. refl) removed.2 others coord_now noted

  stops : Stops Q e k (RemoveIntent act) d M
  stops Before = stops_seen x tops e k d (Some t) M (W, sees)
  stops (InPart which) = stops_seen x tops e k d (Some t) M (W, sees)
  stops After = stops_seen x tops e k d1 (Some (with_coord t Done)) M (V, seen1)

  -- the top was one
  was_top : tops.is_top (uid_number act) ≡ true
  was_top =
      let r = sees.whole.core.coordinators.record_taken (uid_number act) (ap is_some (records_now.is act here ∙ ap nodes_of there)) in
      (sees.kinds (uid_number act)
      (⊎_elim (sees.whole.core.fresh.conf (uid_number act)) (sees.whole.core.fresh.light (uid_number act)) r)).0

  -- its serializing action has ended
  let_go_walks : (rb : Branch) → branch_of j.root t.coord.tree ≡ Some rb → is_some rb.ended ≡ true → j.root ≢ act →
      Walks Q e k (tell_all j.root false ((j.root, ending.Abort) ∷ []) (let_go j.root (without_uid act d.intents) t.coord j.nodes))
      (Up Q k (with_coord t Done)) d1 M
  let_go_walks rb found over other = subst (λ es. Goes x k tops e d1 t Done V2.disk es)
      (append-nil (tell_all j.root false ((j.root, ending.Abort) ∷ []) (let_go j.root (without_uid act d.intents) t.coord j.nodes)))
      (serial x k tops e d1 t Done V2.disk j.root [] (λ N U same s. (U, s)) is_over_now
      (λ n. not (is_deferred j.root (without_uid act d.intents) n) && order.has (nodes_sent j.root (root_at j.root t.coord)) n)
      (λ n h. not_true (is_deferred j.root (without_uid act d.intents) n) (and_left (not (is_deferred j.root (without_uid act d.intents) n))
      (order.has (nodes_sent j.root (root_at j.root t.coord)) n) h)) j.nodes) M V2 refl seen2
    where
      V2 : World
      V2 = after V (machine.Halt (uid_number j.root))

      root_here : j.root.node ≡ k
      root_here = (branch_at j.root t.coord rb found).0 ∙ mine_now.node

      closed : is_open j.root t.coord.tree ≡ false
      closed = ap is_open_branch found ∙ ap not over

      seen2 : SeesDisks x tops (after V (machine.Halt (uid_number j.root))) (up k d1 (with_coord t Done) M)
      seen2 = halts_again x k tops V M d1 (with_coord t Done) j.root seen1 root_here closed (not_future j.root t.coord rb found)

      sort : (tops.is_top (uid_number j.root) ≡ false) × (tops.is_serial (uid_number j.root) ≡ true)
      sort = kinds.serial act j.root was_top (knows.rooted act j there was_top) (λ same. other (sym same))

      none_open : (w : Uid) → is_open w t.coord.tree ≡ true → tops.is_top (uid_number w) ≡ true →
          tops.root (uid_number w) ≡ uid_number j.root → w ≢ j.root → ⊥
      none_open w o top root apart =
          let r = open_root tops d.intents t.coord w j.root knows o top root apart in
          never over (ap (λ (y : Branch). is_some y.ended) (some_is found r.found) ∙ ap (λ (o : Option End). is_some o) r.unended)

      is_over_now : SerialOver (after V (machine.Halt (uid_number j.root))).disk j.root (is_deferred j.root (without_uid act d.intents))
      is_over_now = serial_over x k tops d1 t Done M (after V (machine.Halt (uid_number j.root))) seen2 kinds j.root root_here
          (ap is_gone (put_same (uid_number j.root) disk.Gone V.disk.stage)) sort.1 sort.0 none_open
          (λ w q is. knows.rooted w q (left_there w q is).1)

  rest_walks : (o : Option Intent) → at_uid act d.intents ≡ o →
      Walks Q e k (tolds_let_go act (without_uid act d.intents) t.coord o) (Up Q k (with_coord t Done)) d1 M
  rest_walks None is = absurd (never_some there is)
  rest_walks (Some q) is = subst (λ (y : Intent). Walks Q e k (tolds_let_go act (without_uid act d.intents) t.coord (Some y))
      (Up Q k (with_coord t Done)) d1 M) (some_is there is) (by_test (not (uid_eq j.root act)) refl (branch_of j.root t.coord.tree) refl)
    where
      by_test : (c : Bool) → not (uid_eq j.root act) ≡ c → (g : Option Branch) → branch_of j.root t.coord.tree ≡ g →
          Walks Q e k (if c && is_over g then tell_all j.root false ((j.root, ending.Abort) ∷ [])
          (let_go j.root (without_uid act d.intents) t.coord j.nodes) else []) (Up Q k (with_coord t Done)) d1 M
      by_test false apart g is = (V, seen1)
      by_test true apart None is = (V, seen1)
      by_test true apart (Some rb) is = by_over (is_some rb.ended) refl
        where
          by_over : (c : Bool) → is_some rb.ended ≡ c → Walks Q e k (if c then tell_all j.root false ((j.root, ending.Abort) ∷ [])
              (let_go j.root (without_uid act d.intents) t.coord j.nodes) else []) (Up Q k (with_coord t Done)) d1 M
          by_over false h = (V, seen1)
          by_over true h = let_go_walks rb is h (uid_isnt j.root act (not_true (uid_eq j.root act) apart))

  pub last_walks :
      Walks Q e k (acked_left act i d.intents t.coord []).outs (Up Q k (with_coord t (acked_left act i d.intents t.coord []).part)) d M
  last_walks = (stops, rest_walks (at_uid act d.intents) refl)

pub acks_are_taken : AcksAreTaken
acks_are_taken x tops e k d t from act i M kinds knows told W sees acked = by_left x tops e k d t from act i M kinds knows told W sees acked
    (last_walks x tops e k d t from act i M kinds knows told W sees acked) (without_number from i.nodes) refl
