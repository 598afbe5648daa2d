-- Where an abort comes of an action whose unit is over, and that isn't aborted, the server has acknowledged each committed top of the unit
-- with a surviving write for which it voted: so nothing is left there of such a top.
use Rattle.arj_law_parts.proofs.Words
use Words.{◌≡◌, ◌∙◌, ◌<◌, ℕ, Bool, true, false, cond, List, [], ◌∷◌, Some, refl, sym, ap, subst, inl, inr, ⊎_elim, Contains, arith, Row}
use Words.{has_any, in_from, none_in as none_held, End, Kind, Message, Uid, asks, first_uid, is_on, last_uid, uids_of, Copy, Over}
use Words.{at_number, is_told, Node, Post, Seen}
use Words.ending
use Words.kind
use Words.message
use Rattle.arj_law_serial.proofs.Terms
use Terms.{is_action, on, root, top, Call, State, Survives, start_holds, top_action, top_is, top_of, run_values, start_values, Action}
use Terms.{act_of, Paths, told_by, FitsAsked, IsGoodNode, serial_alone, where_stands, none_in, same_number, IsPlaced, AreOneTree, Sees}
use Terms.{IsSeenIn, IsToldAbort, Spot, server_at, told_in, view_in, world_at, Fixed, view_of, case_of, IsAskedSeen, SeesUp, AbortsAreKnown}
use Terms.{AcksAreKnown, HasAcked, IsPartOf, IsVoter, WasRecorded, records_in}
use Terms.seen as seen_law
use Rattle.arj_law_lock.specs.machine.Actions.{In, is_top}
use Rattle.arj_law_lock_view.proofs.running.{GoodSteps.good_node, OtherSteps.here_of}
use Rattle.arj_law_lock_view.specs.{running.Beside.IsAborted, running.Posts.IsToldSo, view.Telling.HasNoneLeft}
use Rattle.arj_law_parts.specs.parts.{Actions.Stands, Copies.IsGoodCopy}
use Rattle.arj_law_serial.proofs.whole.{AckSteps.voter_part, AckWalks.part_home}

never : {P : Type 0} {b : Bool} → b ≡ true → b ≡ false → P
never {P} {b} holds fails = let no_way : true ≡ false = sym holds ∙ fails in absurd (cc no_way)

below_self : (n : ℕ) → n < n → ⊥
below_self n l = omega (arith, l)

-- who has no row is on no holder's path
none_above : (paths : Paths) (x : ℕ) (c : Copy) → IsGoodCopy paths x c → (u : Uid) → has_any u c.rows ≡ false → (o : Over) →
    Contains c.stack o → is_on o.holder u ≡ false
none_above paths x c good u none o there =
    let h = good.guard o there in
    ap (λ us. is_on us u) (good.overs o there ∙ ap paths (sym h.2) ∙ sym (good.holders h.0 h.1))
    ∙ none_held (λ (r : Row). is_on r.holder u) h.0 c.rows none (in_from h.0 c.rows h.1)

-- the ends that a message tells, by either name
told_as : (m : Message) (u : Uid) → Contains {X = Uid × End} (told_in m) (u, ending.Abort) →
    Contains {X = Uid × End} (told_by m) (u, ending.Abort)
told_as (message.Told m) u there = there
told_as _ u there = none_in u ending.Abort there

module _ (f : Fixed) (x : ℕ) (begun : List Action) (S : State) (s : Spot) (seen : IsSeenIn (case_of f x begun S) (world_at s))
    (knows : AbortsAreKnown begun (world_at s)) (acks : AcksAreKnown true begun (world_at s)) where
  abbrev M : Seen
  M = s.seen

  whole : AreOneTree (record { begun = begun; paths = f.paths; act = f.act })
  whole = let a = seen.agrees in a.whole

  here : (let W = world_at s in W.nodes s.node) ≡ Some (record { number = s.node; disk = s.disk; live = Some s.parts })
  here = λ i. cond (same_number s.node i) (Some (record { number = s.node; disk = s.disk; live = Some s.parts })) (M.nodes s.node)

  its_server : Sees (view_in (case_of f x begun S) s.node) (server_at s) S
  its_server = let u : SeesUp (view_of f x begun s.node) S s.disk s.parts = here_of f x begun s.node s.disk (Some s.parts) S M seen.sees in
      u.server

  -- ---- what is told

  post_so : (u : Uid) (p : Post) → seen_law.In p M.sent → Contains {X = Uid × End} (told_in p.message) (u, ending.Abort) →
      IsToldSo (view_of f x begun p.to) S u ending.Abort
  post_so u p sent told = by p.message (let z = seen.sees in z.posts p sent) told
    where
      by : (m : Message) → IsAskedSeen (view_of f x begun p.to) M.sent (record { from = p.from; to = p.to; message = m }) S (asks m) →
          Contains {X = Uid × End} (told_in m) (u, ending.Abort) → IsToldSo (view_of f x begun p.to) S u ending.Abort
      by (message.Told m) so there = so u ending.Abort there
      by _ so there = none_in u ending.Abort there

  told_so : (u : Uid) → IsToldAbort s u → IsToldSo (view_of f x begun s.node) S u ending.Abort
  told_so u told = subst (λ n. IsToldSo (view_of f x begun n) S u ending.Abort) told.to (post_so u told.post told.sent told.told)

  module _ (u : Uid) (told : IsToldAbort s u) (alive : IsAborted (case_of f x begun S) u → ⊥) where
    -- it is a top, or stands alone
    unnested : is_action (f.act u) ≡ true → is_top (f.act u) ≡ true
    unnested acts = by (told_so u told)
      where
        by : IsToldSo (view_of f x begun s.node) S u ending.Abort → is_top (f.act u) ≡ true
        by (inl gone) = absurd (alive gone)
        by (inr (inl over)) = over.1 acts
        by (inr (inr committed)) = committed.0

    its_action : (a : Action) × Contains begun a × (act_of a ≡ u)
    its_action = (knows.told u s.node (told.post, told.sent, told.to, told.told)).0

    module _ (t : Uid) (top_t : is_top (f.act t) ≡ true) (b : Action) (known : Contains begun b) (of : act_of b ≡ t) (unit : root (f.act t)
        ≡ root (f.act u)) (w : Uid) (on_t : on (f.act w) (f.act t) ≡ true) (on_u : on (f.act w) (f.act u) ≡ true) where
      same_top : is_action (f.act u) ≡ true → IsPartOf begun t u
      same_top acts =
          inl (whole.alike.one t u (sym (top_of (f.act w) (f.act t) top_t on_t) ∙ top_of (f.act w) (f.act u) (unnested acts) on_u))

      serial : is_action (f.act u) ≡ false → IsPartOf begun t u
      serial lone = by b.kind refl (where_stands begun whole.begun b (in_from b begun known))
        where
          its_kind : (let a = its_action.0 in a.kind) ≡ kind.Serial
          its_kind = kinds (let a = its_action.0 in a.kind) refl
              (subst (λ z. IsPlaced (f.act z) (let a = its_action.0 in a.kind)) its_action.2 (whole.placed its_action.0 its_action.1))
            where
              kinds : (k : Kind) → (let a = its_action.0 in a.kind) ≡ k → IsPlaced (f.act u) k →
                  (let a = its_action.0 in a.kind) ≡ kind.Serial
              kinds kind.Serial is placed = is
              kinds kind.Nested is placed = never placed.0 lone
              kinds kind.Top is placed = never (top_action (f.act u) placed) lone
              kinds kind.Independent is placed = never (top_action (f.act u) placed) lone
              kinds kind.Constituent is placed = never (top_action (f.act u) placed) lone

          root_b : first_uid (uids_of b.path) ≡ u
          root_b = ap first_uid (sym (whole.agree b known) ∙ ap f.paths of) ∙ whole.alike.units t u unit
              ∙ ap first_uid (ap f.paths (sym its_action.2) ∙ whole.agree its_action.0 its_action.1
              ∙ (serial_alone begun whole.begun its_action.0 (in_from its_action.0 begun its_action.1) its_kind).0) ∙ its_action.2

          placed_t : IsPlaced (f.act t) b.kind
          placed_t = subst (λ z. IsPlaced (f.act z) b.kind) of (whole.placed b known)

          alone : uids_of b.path ≡ act_of b ∷ [] → IsPartOf begun t u
          alone path = inl (sym of ∙ sym (ap first_uid path) ∙ root_b)

          by : (k : Kind) → b.kind ≡ k → Stands begun b k → IsPartOf begun t u
          by kind.Constituent is stands = inr (b, known, of, is, root_b)
          by kind.Top is stands = alone stands.0
          by kind.Independent is stands = alone stands.0
          by kind.Serial is stands = never (top_action (f.act t) top_t) (subst (IsPlaced (f.act t)) is placed_t)
          by kind.Nested is stands = never top_t (subst (IsPlaced (f.act t)) is placed_t).1

      part : IsPartOf begun t u
      part = by (is_action (f.act u)) refl
        where
          by : (z : Bool) → is_action (f.act u) ≡ z → IsPartOf begun t u
          by true is = same_top is
          by false is = serial is

  -- ---- what was voted for

  module _ (t : Uid) (v : IsVoter M.sent t s.node (let r = server_at s in r.inc)) where
    -- it was begun
    voter_action : (a : Action) × Contains begun a × (act_of a ≡ t)
    voter_action =
        let g = seen.good in
        let fit = subst (FitsAsked begun (let p = v.post in p.message)) v.asking (g.fits v.post v.posted) in
        (fit.0.0, fit.0.1, ap (λ p. last_uid (uids_of p)) fit.0.2 ∙ v.top)

  module _ (c : Copy) (at : at_number x (let r = server_at s in r.objects) ≡ Some c) (o : Over) (there : Contains c.stack o) where
    good_here : IsGoodNode begun f.paths s.parts
    good_here = good_node (case_of f x begun S) s seen

    -- who stands on the path of its holder stands there in the machine
    on_holder : (z : Uid) → is_on o.holder z ≡ true → on (f.act (last_uid o.holder)) (f.act z) ≡ true
    on_holder z is = let r = good_here.server in let g = r.copies x c at in
        whole.alike.above (last_uid o.holder) z ∙ sym (ap (λ us. is_on us z) (g.overs o there)) ∙ is

    -- nobody on it was told
    untold : (z : Uid) → is_on o.holder z ≡ true → is_told z (server_at s) ≡ false
    untold z is = by (is_told z (server_at s)) refl
      where
        by : (b : Bool) → is_told z (server_at s) ≡ b → is_told z (server_at s) ≡ false
        by true told = let r = good_here.server in never is (none_above f.paths x c (r.copies x c at) z (r.none x c z at told) o there)
        by false told = told

    module _ (t : Uid) (is : is_on o.holder t ≡ true) (voted : (let m = S.server s.node in m.voted (f.act t)) ≡ true) where
      on_voted : is_on (let r = server_at s in r.voted) t ≡ true
      on_voted = by (is_on (let r = server_at s in r.voted) t) refl
        where
          by : (b : Bool) → is_on (let r = server_at s in r.voted) t ≡ b → is_on (let r = server_at s in r.voted) t ≡ true
          by true on_it = on_it
          by false off = never voted (its_server.voted t (untold t is) off)

      voter : IsVoter M.sent t s.node (let r = server_at s in r.inc)
      voter = let k = acks.nodes s.node (record { number = s.node; disk = s.disk; live = Some s.parts }) here s.parts refl in
          k.voted t on_voted

      -- it didn't acknowledge
      unacked : HasAcked M.sent t s.node → ⊥
      unacked has = let k = acks.nodes s.node (record { number = s.node; disk = s.disk; live = Some s.parts }) here s.parts refl in
          ⊎_elim (λ told. never told (untold t is))
          (λ late. below_self (let r = server_at s in r.inc) (late (let r = server_at s in r.inc) voter)) (k.acked refl t has)

      module _ (u : Uid) (on_u : is_on o.holder u ≡ true) (told : IsToldAbort s u) (alive : IsAborted (case_of f x begun S) u →
          ⊥) (unit : root (f.act t) ≡ root (f.act u)) (top_t : is_top (f.act t) ≡ true) (recorded : (n : Node) →
          (let W = world_at s in W.nodes t.node) ≡ Some n → IsVoter M.sent t s.node (let r = server_at s in r.inc) →
          WasRecorded (records_in (let W = world_at s in W.nodes)) M.sent t) where
        no_way : ⊥
        no_way =
            let a = voter_action t voter in
            let p = part u told alive t top_t a.0 a.1 a.2 unit (last_uid o.holder) (on_holder t is) (on_holder u on_u) in
            let n = (knows.told u s.node (told.post, told.sent, told.to, told.told)).1 in
            let its = recorded n.0
            (ap (let W = world_at s in W.nodes) (part_home true begun whole.begun acks.homes u.node t u p refl) ∙ n.1) voter in
            let v = subst (λ n. IsVoter M.sent t n (let r = server_at s in r.inc)) (sym told.to) voter in
            unacked (subst (HasAcked M.sent t) told.to (let y = acks.world in y.aborts told.post u t told.sent (told_as (let q = told.post
            in q.message) u told.told) p (voter_part M.sent t (let q = told.post in q.to) (let r = server_at s in r.inc) v) its))

  pub none_left : ((t : Uid) (k : Call) (n : Node) → (let W = world_at s in W.nodes t.node) ≡ Some n →
      IsVoter M.sent t s.node (let r = server_at s in r.inc) → (let a = S.action (f.act t) in a.stage) ≡ 3 → In k S.calls → k.write ≡ true →
      Survives S k.act → top k.act ≡ f.act t → WasRecorded (records_in (let W = world_at s in W.nodes)) M.sent t)
      → (u : Uid) → IsToldAbort s u → (IsAborted (case_of f x begun S) u → ⊥) →
      HasNoneLeft (view_in (case_of f x begun S) s.node) u (server_at s) S
  none_left recorded u told alive t k c o unit three called writes survives same voted at there living = by (is_on o.holder t) refl
    where
      top_t : is_top (f.act t) ≡ true
      top_t =
          let z = seen.sees in
          let all = run_values z.run (start_holds f.first) (start_values f.first) in
          let h = all.0 in
          ap is_top (sym same) ∙ top_is k.act (let y = h.calls k called in y.acts)

      by : (b : Bool) → is_on o.holder t ≡ b → is_on o.holder t ≡ false
      by false off = off
      by true is = absurd (no_way c at o there t is voted u living.0 told alive unit top_t
          (λ n its asked. recorded t k n its asked three called writes survives same))
