-- An end that naming is told, walked with both halves.
use Rattle.arj_law_parts.proofs.Words
use Words.{◌≡◌, ◌⊎◌, ◌==◌, ◌||◌, not, ℕ, List, [], ◌∷◌, ◌++◌, Bool, true, false, Some, None, refl, sym, ◌∙◌, ap, subst, inl, inr, ⊎_elim}
use Words.{list_all, if◌then◌else◌, and_parts, Uid, End, is_on, Disk, Effect, Say, Send, Do, Pair, is_prepared, Naming, Parts, Took}
use Words.{ack_told, handle_told, end_states, naming_told, store_told, at_uid, uid_number, AreAll, is_server_effect, all_both, ends_own}
use Words.{told_own, Seen}
use Words.ending
use Words.naming
use Words.server
use Rattle.arj_law_disk_view.proofs.Terms
use Terms.{World, Allowed, IsNot, after, end_of, is_only_of, only_acks, tells_only_of, Named, Names, Office, Do as act, Hold}
use Terms.{naming as naming_node, In, runs_keep, falls_to, never, some_is, test_is, plain_act, AreSorted, up, Walks, Up, halted, SeesEntry}
use Terms.{Along, IsLater, Kinds, IsFixed, IsNested, IsSeenByDisks, SeesDisks, followed, BothWalk, DisksWalk, GoesOnward, IsSeenFrom}
use Terms.{OnlyMemory, SeesBoth, leaves_the_inc, ClaimsTop, OnlyEnds, NamesGo, SeesNaming}
use Terms.machine
use Terms.mail
use Rattle.arj_law_disk_view.proofs.names.BareEnds.{none_ended}
use Rattle.arj_law_disk_view.proofs.names.ConfirmBoth.{naming_leaves}
use Rattle.arj_law_disk_view.proofs.names.EndActs.{nested_ends_are_nothing, serials_end_by_acts, tops_end_by_acts}
use Rattle.arj_law_disk_view.proofs.names.EntriesLeft.{left_names, names_left, outs_gone}
use Rattle.arj_law_disk_view.proofs.names.Onward.{along_onward, goes_onward, none_confirmed, none_passed, onward_still}
use Rattle.arj_law_disk_view.proofs.names.Orphans.{given_left}
use Rattle.arj_law_disk_view.proofs.names.Pairing.{Ends, Stepped, Still, left_disk, naming_on, seen_as, steps, still_only, stopped_both}
use Rattle.arj_law_disk_view.proofs.names.Pairing.{unfollowed, walked_both, walks_at}
use Rattle.arj_law_disk_view.proofs.view
use view.{Frames.node_here, Later.effects_are_later, NamingTold.names_not, Notes.fixed_later, StoreWalks.took_is}
use Rattle.arj_law_disk_view.specs.names.Both.{IsOver, OtherEndsKeepBoth, TopEndsKeepBoth}

-- ---- the acts

-- what may be noted is naming's acknowledgement alone
tells_plainly : (t : ℕ) (m : mail.Message) → tells_only_of (only_acks t) m ≡ true →
    (tells_only_of (λ n. false) m ≡ true) ⊎ (m ≡ mail.Acked t naming_node)
tells_plainly t (mail.Acked z m) is = by (m == naming_node) refl is
  where
    by : (b : Bool) → (m == naming_node) ≡ b → (not b || (z == t)) ≡ true →
        ((not (m == naming_node) || false) ≡ true) ⊎ (mail.Acked z m ≡ mail.Acked t naming_node)
    by false off h = inl (ap (λ b. not b || false) off)
    by true on h = inr (λ i. mail.Acked (test_is z t h i) (test_is m naming_node on i))
tells_plainly t (mail.Prepare z s) is = inl refl
tells_plainly t (mail.Prepared z s) is = inl refl
tells_plainly t (mail.Confirm z) is = inl refl
tells_plainly t (mail.Confirmed z) is = inl refl
tells_plainly t (mail.ToldCommit z m) is = inl refl
tells_plainly t (mail.ToldBare z m) is = inl refl
tells_plainly t (mail.ToldAbort z m) is = inl refl
tells_plainly t (mail.ToldSerial r m) is = inl refl

acts_plainly : (t : ℕ) (a : machine.Effect) → is_only_of (only_acks t) a ≡ true →
    (is_only_of (λ n. false) a ≡ true) ⊎ (a ≡ machine.Send (mail.Acked t naming_node))
acts_plainly t (machine.Begin z p) is = absurd (never is refl)
acts_plainly t (machine.Take z s) is = inl refl
acts_plainly t (machine.Seal z) is = inl refl
acts_plainly t (machine.Intend z nodes) is = inl refl
acts_plainly t (machine.Decide z) is = absurd (never is refl)
acts_plainly t (machine.Remove z nodes) is = inl refl
acts_plainly t (machine.EndBare z) is = absurd (never is refl)
acts_plainly t (machine.Halt z) is = inl refl
acts_plainly t (machine.Keep z s) is = inl refl
acts_plainly t (machine.Move s h) is = inl refl
acts_plainly t (machine.Finish s h) is = inl refl
acts_plainly t (machine.Drop s h) is = inl refl
acts_plainly t (machine.Agree z) is = absurd (never is refl)
acts_plainly t (machine.Pass z) is = absurd (never is refl)
acts_plainly t (machine.Enter z) is = absurd (never is refl)
acts_plainly t (machine.MoveEntry h) is = inl refl
acts_plainly t (machine.FinishEntry h) is = inl refl
acts_plainly t (machine.DropEntry h) is = inl refl
acts_plainly t (machine.Forget r h) is = inl refl
acts_plainly t (machine.Send m) is = ⊎_elim (λ plain. inl plain) (λ same. inr (ap machine.Send same)) (tells_plainly t m is)

module _ (x : ℕ) (tops : Kinds) (u : Uid) (how : End) (d : Pair) (n : Naming) (A : Office) (named : Named A)
    (now : SeesNaming x tops n A.world.disk A.names) (fixed : IsFixed tops A.world.disk) where
  abbrev pub After : Naming
  After = let s = naming.told u how d n in s.part

  -- naming's half is as it was, or the end is taken
  abbrev pub Early : Office → Type 0
  Early C = C.names ≡ A.names

  pub record Late (C : Office) : Type 0 where
    pub inc : C.names.inc ≡ A.names.inc
    pub had : C.names.had ≡ A.names.had
    pub kept : C.names.kept ≡ A.names.kept
    pub answers : C.names.answers ≡ A.names.answers
    pub confd : C.names.confd ≡ A.names.confd
    pub seen : SeesNaming x tops After C.world.disk C.names
    pub told : C.names.told (uid_number u) ≡ true

  pub record Inv (C : Office) : Type 0 where
    pub fixed_then : IsFixed tops C.world.disk
    pub sent : (m : mail.Message) → In m A.world.sent → In m C.world.sent
    pub tops_then : C.world.disk.tops ≡ A.world.disk.tops
    pub either : Early C ⊎ Late C

  pub begins : Inv A
  begins = record { fixed_then = fixed; sent = λ m i. i; tops_then = refl; either = inl refl }

  -- an act whose effect is this one keeps the rest
  kept_by : (C : Office) (a : machine.Effect) → Named C → Inv C → Allowed C.world a → (after C.world a).disk.tops ≡ C.world.disk.tops →
      (N : Names) → Early (record { world = after C.world a; names = N }) ⊎ Late (record { world = after C.world a; names = N }) →
      Inv (record { world = after C.world a; names = N })
  kept_by C a c i allowed same N e =
      let later = effects_are_later C.world (a ∷ []) (allowed, tt) c.whole in
      record {
        fixed_then = fixed_later tops C.world (after C.world a) later i.fixed_then;
        sent = λ m s. later.sent m (i.sent m s);
        tops_then = same ∙ i.tops_then;
        either = e;
      }

  -- the same names in another world
  late_on : (C : Office) (W : World) → W.disk.root ≡ C.world.disk.root → Late C → Late (record { world = W; names = C.names })
  late_on C W root l = record {
    inc = l.inc;
    had = l.had;
    kept = l.kept;
    answers = l.answers;
    confd = l.confd;
    seen = naming_on x tops After C.world.disk W.disk C.names root l.seen;
    told = l.told;
  }

  plain_step : (C : Office) (a : machine.Effect) → Named C → Inv C → Allowed C.world a → is_only_of (λ z. false) a ≡ true →
      Stepped Inv (after C.world a)
  plain_step C a c i allowed is =
      let p = plain_act C a allowed is in
      let later = effects_are_later C.world (a ∷ []) (allowed, tt) c.whole in
      record {
        names = C.names;
        named = subst (λ N. Named (record { world = after C.world a; names = N })) p.names (runs_keep C (act a ∷ []) (p.may, tt) c);
        holds = kept_by C a c i allowed p.tops C.names (⊎_elim (λ e. inl e) (λ l. inr (late_on C (after C.world a) later.root l)) i.either);
      }

  -- the end is taken where it may be
  abbrev pub MayEnd : Type 0
  MayEnd = (C : Office) → Named C → IsFixed tops C.world.disk → C.names ≡ A.names → ((m : mail.Message) → In m A.world.sent →
      In m C.world.sent) → SeesNaming x tops n C.world.disk C.names → IsNot C.world.disk.entry_pend (uid_number u)
      → NamesGo C (λ B. OnlyEnds C B × SeesNaming x tops After B.world.disk B.names × (B.names.told (uid_number u) ≡ true))

  pub ended_office : MayEnd → (C : Office) → Named C → Inv C → Early C → IsNot C.world.disk.entry_pend (uid_number u) →
      (B : Office) × (B.world ≡ C.world) × Named B × Late B
  ended_office ends C c i same clear =
      let root : C.world.disk.root ≡ A.world.disk.root = (let f = i.fixed_then in f.root) ∙ sym fixed.root in
      let go = ends C c i.fixed_then same i.sent (subst (λ N. SeesNaming x tops n C.world.disk N) (sym same)
      (naming_on x tops n A.world.disk C.world.disk A.names root now)) clear in
      let only = go.there.0 in (
        end_of C go.acts,
        only.world,
        runs_keep C go.acts go.may c,
        record {
          inc = only.inc ∙ ap (λ (N : Names). N.inc) same;
          had = only.had ∙ ap (λ (N : Names). N.had) same;
          kept = only.kept ∙ ap (λ (N : Names). N.kept) same;
          answers = only.answers ∙ ap (λ (N : Names). N.answers) same;
          confd = only.confd ∙ ap (λ (N : Names). N.confd) same;
          seen = go.there.1;
          told = go.there.2;
        },
      )

  ack_step : MayEnd → (C : Office) → Named C → Inv C → Allowed C.world (machine.Send (mail.Acked (uid_number u) naming_node)) →
      Stepped Inv (after C.world (machine.Send (mail.Acked (uid_number u) naming_node)))
  ack_step ends C c i allowed =
      ⊎_elim (λ e. let r = ended_office ends C c i e (allowed.2 refl) in sends r.0 r.1 r.2 r.3) (λ l. sends C refl c l) i.either
    where
      sends : (B : Office) → B.world ≡ C.world → Named B → Late B →
          Stepped Inv (after C.world (machine.Send (mail.Acked (uid_number u) naming_node)))
      sends B world b l =
          let a : machine.Effect = machine.Send (mail.Acked (uid_number u) naming_node) in
          record {
            names = B.names;
            named = subst (λ V. Named (record { world = after V a; names = B.names })) world
                (runs_keep B (act a ∷ []) ((subst (λ V. Allowed V a) (sym world) allowed, λ one. l.told), tt) b);
            holds =
                kept_by C a c i allowed refl B.names (inr (late_on B (after C.world a) (ap (λ (V : World). V.disk.root) (sym world)) l));
          }

  pub told_steps : MayEnd → (C : Office) (a : machine.Effect) → Named C → Inv C → Allowed C.world a →
      is_only_of (only_acks (uid_number u)) a ≡ true → Stepped Inv (after C.world a)
  told_steps ends C a c i allowed is = ⊎_elim (λ plain. plain_step C a c i allowed plain)
      (λ same. subst (λ z. Stepped Inv (after C.world z)) (sym same) (ack_step ends C c i (subst (Allowed C.world) same allowed)))
      (acts_plainly (uid_number u) a is)

-- ---- the walk

module _ (x : ℕ) (tops : Kinds) (unwalked : tops.walk ≡ None) (e : ℕ) (d : Disk) (t : Parts) (n : Naming) (from : ℕ) (ack : Bool)
    (ends : List (Uid × End)) (u : Uid) (how : End) (A : Office) (M : Seen) (named : t.naming ≡ Some n)
    (both : SeesBoth x tops A (up 1 d t M)) where
  now : SeesNaming x tops n A.world.disk A.names
  now = both.names.memory (record { number = 1; disk = d; live = Some t }) t n
      (node_here M 1 (record { number = 1; disk = d; live = Some t })) refl named

  abbrev Outs : List Effect
  Outs = store_told 1 u how d.store ++ (naming.told u how d.names n).outs ++ (server.told 1 ends t.server).outs ++ ack_told from u ack

  abbrev Left : Parts
  Left = record { server = (server.told 1 ends t.server).part; naming = Some (naming.told u how d.names n).part; coord = t.coord }

  told_is : handle_told 1 d t from ack ends u how ≡ Took Left Outs
  told_is =
      ap (λ o. Took (record { server = (server.told 1 ends t.server).part; naming = (naming_told u how d.names o).part; coord = t.coord })
      (store_told 1 u how d.store ++ (naming_told u how d.names o).outs ++ (server.told 1 ends t.server).outs ++ ack_told from u ack)) named

  all : AreAll leaves_the_inc Outs
  all = all_both leaves_the_inc (store_told 1 u how d.store ++ (naming.told u how d.names n).outs ++ (server.told 1 ends t.server).outs)
      (ack_told from u ack)
      (all_both leaves_the_inc (store_told 1 u how d.store ++ (naming.told u how d.names n).outs) (server.told 1 ends t.server).outs
      (all_both leaves_the_inc (store_told 1 u how d.store) (naming.told u how d.names n).outs (stored how (is_prepared u d.store))
      (naming_leaves (naming.told u how d.names n).outs (told_own u how d.names n)))
      (server_leaves (server.told 1 ends t.server).outs (ends_own 1 ends t.server))) (acked ack)
    where
      stored : (how : End) (b : Bool) → AreAll leaves_the_inc (if b then end_states 1 u how else [])
      stored ending.Commit true = refl
      stored ending.Abort true = refl
      stored ending.Commit false = refl
      stored ending.Abort false = refl

      acked : (b : Bool) → AreAll leaves_the_inc (ack_told from u b)
      acked true = refl
      acked false = refl

      server_leaves : (es : List Effect) → AreAll (is_server_effect 1) es → AreAll leaves_the_inc es
      server_leaves [] all = refl
      server_leaves (Say b ∷ es) all = server_leaves es (and_parts (is_server_effect 1 (Say b)) (list_all (is_server_effect 1) es) all).1
      server_leaves (Send to m ∷ es) all = absurd (cc all)
      server_leaves (Do w ∷ es) all = absurd (cc all)

  gone : at_uid u (left_disk Outs d).names.pend ≡ None
  gone = subst (λ (p : Pair). at_uid u p.pend ≡ None) (sym (left_names Outs d)) (outs_gone u how d t n from ack ends sorted)
    where
      sorted : AreSorted d.names.pend
      sorted = let s = both.disks.entry (record { number = 1; disk = d; live = Some t })
          (node_here M 1 (record { number = 1; disk = d; live = Some t })) in s.pair.sorted

  -- ---- a top

  module _ (top : tops.is_top (uid_number u) ≡ true) (plain : A.world.disk.serial (uid_number u) ≡ false)
      (claims : ClaimsTop A (uid_number u) how) where
    may_end : MayEnd x tops u how d.names n A both.named now both.disks.fixed
    may_end C c fixed same sent seen clear = tops_end_by_acts x tops u how d.names n C c seen fixed top
        (ap (λ f. f (uid_number u)) (fixed.serial ∙ sym (let z = both.disks.fixed in z.serial)) ∙ plain) clear (claims_on how claims)
      where
        claims_on : (how : End) → ClaimsTop A (uid_number u) how → ClaimsTop C (uid_number u) how
        claims_on ending.Commit c = ⊎_elim (λ i. inl (sent (mail.ToldCommit (uid_number u) naming_node) i))
            (λ i. inr (sent (mail.ToldBare (uid_number u) naming_node) i)) c
        claims_on ending.Abort c = sent (mail.ToldAbort (uid_number u) naming_node) c

    stepped : (W : World) → Along (record { from = A.world; noted = only_acks (uid_number u) }) W →
        Stepped (Inv x tops u how d.names n A both.named now both.disks.fixed) W
    stepped W a = subst (Stepped (Inv x tops u how d.names n A both.named now both.disks.fixed)) a.here
        (steps (Inv x tops u how d.names n A both.named now both.disks.fixed) (only_acks (uid_number u))
        (told_steps x tops u how d.names n A both.named now both.disks.fixed may_end) a.effects A both.named
        (begins x tops u how d.names n A both.named now both.disks.fixed) a.allowed a.only)

    abbrev LateOne : Office → Type 0
    LateOne C = Late x tops u how d.names n A both.named now both.disks.fixed C

    later_to : (W : World) → Along (record { from = A.world; noted = only_acks (uid_number u) }) W → IsLater A.world W
    later_to W a = subst (IsLater A.world) a.here (effects_are_later A.world a.effects a.allowed (let c = both.named in c.whole))

    bare_to : (W : World) → Along (record { from = A.world; noted = only_acks (uid_number u) }) W → (z : ℕ) → W.disk.bare z ≡ true →
        A.world.disk.bare z ≡ true
    bare_to W a z = none_ended (only_acks (uid_number u)) z refl A.world W a

    only_of : (B : Office) → IsLater A.world B.world → B.world.disk.tops ≡ A.world.disk.tops → ((t : ℕ) → B.world.disk.bare t ≡ true →
        A.world.disk.bare t ≡ true) → GoesOnward A B → (B.names ≡ A.names) ⊎ LateOne B → OnlyMemory A B
    only_of B later tops_same bare_same onward either = record {
      later = later;
      onward = onward;
      tops = tops_same;
      bare = bare_same;
      had = ⊎_elim (λ e. ap (λ (N : Names). N.had) e) (λ l. l.had) either;
      kept = ⊎_elim (λ e. ap (λ (N : Names). N.kept) e) (λ l. l.kept) either;
      inc = ⊎_elim (λ e. ap (λ (N : Names). N.inc) e) (λ l. l.inc) either;
      confd = λ t on. ⊎_elim (λ e. ap (λ (N : Names). N.confd t) e ∙ on) (λ l. ap (λ f. f t) l.confd ∙ on) either;
      answers = λ a i.
          ⊎_elim (λ e. subst (λ (N : Names). In a N.answers) (sym e) i) (λ l. subst (λ as_left. In a as_left) (sym l.answers) i) either;
    }

    inc_of : (B : Office) → (B.names ≡ A.names) ⊎ LateOne B → B.names.inc ≡ A.names.inc
    inc_of B either = ⊎_elim (λ e. ap (λ (N : Names). N.inc) e) (λ l. l.inc) either

    stops : (c : Disk) (N : Seen) → c.inc ≡ d.inc → N.nodes ≡ M.nodes →
        IsSeenByDisks x (followed tops A.world (only_acks (uid_number u))) (halted e 1 c N) → IsSeenFrom x tops A (halted e 1 c N)
    stops c N inc same (W, s) =
        let st = stepped W s.along in
        let i = st.holds in
        let B : Office = record { world = W; names = st.names } in (
          B,
          only_of B (later_to W s.along) i.tops_then (bare_to W s.along) (goes_onward (only_acks (uid_number u)) (λ z. refl) A B s.along)
              i.either,
          stopped_both x tops 1 d (Some t) A M both e B N c st.named (inc_of B i.either) (unfollowed x tops unwalked
              (only_acks (uid_number u)) A.world W (halted e 1 c N) s) inc same (λ other. absurd (never refl other)),
        )

    ended : (L : Seen) → (left_disk Outs d).inc ≡ d.inc → L.nodes ≡ M.nodes → IsSeenByDisks x (followed tops A.world
        (only_acks (uid_number u))) (up 1 (left_disk Outs d) Left L) → IsSeenFrom x tops A (up 1 (left_disk Outs d) Left L)
    ended L inc same (W, s) = ⊎_elim
        (λ early. let r = ended_office x tops u how d.names n A both.named now both.disks.fixed may_end
        (record { world = W; names = (stepped W s.along).names }) (stepped W s.along).named (stepped W s.along).holds early
        (names_not x tops e Left Left (left_disk Outs d) L W u disks gone) in seen r.0 r.1 r.2 r.3)
        (λ late. seen (record { world = W; names = (stepped W s.along).names }) refl (stepped W s.along).named late)
        (stepped W s.along).holds.either
      where
        disks : SeesDisks x tops W (up 1 (left_disk Outs d) Left L)
        disks = unfollowed x tops unwalked (only_acks (uid_number u)) A.world W (up 1 (left_disk Outs d) Left L) s

        seen : (B : Office) → B.world ≡ W → Named B → LateOne B → IsSeenFrom x tops A (up 1 (left_disk Outs d) Left L)
        seen B world b late = (
          B,
          only_of B (subst (IsLater A.world) (sym world) (later_to W s.along)) (ap (λ (V : World). V.disk.tops) world ∙ (stepped W
              s.along).holds.tops_then) (λ z on. bare_to W s.along z (ap (λ (V : World). V.disk.bare z) (sym world) ∙ on)) (onward_still A B
              W (along_onward (only_acks (uid_number u)) A.world W s.along) (λ z on. none_confirmed (only_acks (uid_number u)) z refl
              A.world W s.along on) (λ z on. none_passed (only_acks (uid_number u)) z refl A.world W s.along on) world) (inr late),
          seen_as x tops 1 d (Some t) A M both Left B L (left_disk Outs d) b late.inc
              (subst (λ V. SeesDisks x tops V (up 1 (left_disk Outs d) Left L)) (sym world) disks) inc same
              (λ o one is. subst (λ z. SeesNaming x tops z B.world.disk B.names) (some_is refl is) late.seen)
              (λ other. absurd (never refl other)),
        )

    pub top_both : Walks (IsSeenByDisks x (followed tops A.world (only_acks (uid_number u)))) e 1 Outs (Up (IsSeenByDisks x (followed tops
        A.world (only_acks (uid_number u)))) 1 Left) d M → Walks (IsSeenFrom x tops A) e 1 Outs (Up (IsSeenFrom x tops A) 1 Left) d M
    top_both walk = walks_at e 1 d M (IsSeenByDisks x (followed tops A.world (only_acks (uid_number u)))) (IsSeenFrom x tops A)
        (Up (IsSeenByDisks x (followed tops A.world (only_acks (uid_number u)))) 1 Left) (Up (IsSeenFrom x tops A) 1 Left) stops Outs all d
        M refl refl ended walk

pub top_ends_keep_both : TopEndsKeepBoth
top_ends_keep_both x tops e d t v n from ack ends u how outs A M unwalked named is top plain claims both walk =
    took_is x 1 tops e (λ p es. DisksWalk (only_acks (uid_number u)) x tops A e 1 es p d M → BothWalk x tops A e 1 es p d M) (Left x tops
    unwalked e d t n from ack ends u how A M named both) (Outs x tops unwalked e d t n from ack ends u how A M named both) v outs
    (sym (told_is x tops unwalked e d t n from ack ends u how A M named both) ∙ is)
    (λ w. top_both x tops unwalked e d t n from ack ends u how A M named both top plain claims w) walk

-- ---- a serializing action, and a nested one

module _ (x : ℕ) (tops : Kinds) (unwalked : tops.walk ≡ None) (e : ℕ) (d : Disk) (t : Parts) (n : Naming) (from : ℕ) (ack : Bool)
    (ends : List (Uid × End)) (u : Uid) (how : End) (A : Office) (M : Seen) (named : t.naming ≡ Some n)
    (both : SeesBoth x tops A (up 1 d t M)) where
  abbrev Outs_of : List Effect
  Outs_of = Outs x tops unwalked e d t n from ack ends u how A M named both

  abbrev Left_of : Parts
  Left_of = Left x tops unwalked e d t n from ack ends u how A M named both

  -- naming's part afterwards, by acts from where the disk half has come to
  abbrev Taken : World → Type 0
  Taken W = (B : Office) × (B.world ≡ W) × Named B × (B.names.inc ≡ A.names.inc) × OnlyMemory A B
      × SeesNaming x tops (let s = naming.told u how d.names n in s.part) B.world.disk B.names

  memory_in : (W : World) → IsFixed tops W.disk → SeesNaming x tops n W.disk A.names
  memory_in W fixed = naming_on x tops n A.world.disk W.disk A.names (fixed.root ∙ sym (let f = both.disks.fixed in f.root))
      (now x tops unwalked e d t n from ack ends u how A M named both)

  nested_taken : IsNested tops (uid_number u) → (W : World) → Still A W → IsFixed tops W.disk → Taken W
  nested_taken nested W st fixed = (
    record { world = W; names = A.names },
    refl,
    st.named,
    refl,
    still_only A W st,
    nested_ends_are_nothing x tops u how d.names n (record { world = W; names = A.names }) st.named (memory_in W fixed) fixed nested
        unconfirmed,
  )
    where
      unconfirmed : is_on n.confirmed u ≡ false
      unconfirmed = falls_to (is_on n.confirmed u) (λ on.
          let c = both.disks.confirmed (record { number = 1; disk = d; live = Some t }) t n
          (node_here M 1 (record { number = 1; disk = d; live = Some t })) refl named u on in
          never (both.disks.kinds (uid_number u) c.0).0 nested.0)

  over_taken : IsOver x tops A u how n → (W : World) → Still A W → IsFixed tops W.disk → SeesEntry x (names_left Outs_of d.names) W.disk →
      Taken W
  over_taken (kind, serial, aborted, told, has_it) W st fixed entry =
      let B : Office = record { world = W; names = A.names } in
      let go = serials_end_by_acts x tops u d.names n B st.named (memory_in W fixed) fixed kind (ap (λ f. f (uid_number u)) (fixed.serial
      ∙ sym (let z = both.disks.fixed in z.serial)) ∙ serial) (st.later.sent (mail.ToldSerial (uid_number u) 1) told) ended in
      let only = go.there.0 in (
        end_of B go.acts,
        only.world,
        runs_keep B go.acts go.may st.named,
        only.inc,
        record {
          later = subst (IsLater A.world) (sym only.world) st.later;
          tops = ap (λ (V : World). V.disk.tops) only.world ∙ st.tops;
          bare = λ z on. st.bare z (ap (λ (V : World). V.disk.bare z) (sym only.world) ∙ on);
          had = only.had;
          kept = only.kept;
          answers = λ a i. subst (λ as_left. In a as_left) (sym only.answers) i;
          inc = only.inc;
          confd = λ z on. ap (λ f. f z) only.confd ∙ on;
          onward = onward_still A (end_of B go.acts) W st.onward st.unconfirmed st.unpassed only.world;
        },
        subst (λ z. SeesNaming x tops (let s = naming.told u z d.names n in s.part) (end_of B go.acts).world.disk (end_of B go.acts).names)
            (sym aborted) go.there.1,
      )
    where
      ended : is_on n.told u ≡ false → (h : Hold) → W.disk.entry_pend ≡ Some h → W.disk.root h.top ≡ uid_number u →
          A.names.given h.top ≡ true
      ended new h is root =
          let p = entry.pair in
          let f = p.holder h is in
          let top : uid_number f.action ≡ h.top = ap (λ (g : Hold). g.top) f.is in
          ap A.names.given (sym top) ∙ given_left x tops d t n from ack ends u how A both.named (now x tops unwalked e d t n from ack ends
          u how A M named both) (both.disks.entry (record { number = 1; disk = d; live = Some t })
          (node_here M 1 (record { number = 1; disk = d; live = Some t }))) both.disks.fixed both.disks.kinds serial has_it new aborted
          f.action f.states f.state f.prepared f.of (ap tops.root top ∙ sym (ap (λ g. g h.top) fixed.root) ∙ root)

  pub other_both : IsOver x tops A u how n ⊎ IsNested tops (uid_number u) → DisksWalk (λ z. false) x tops A e 1 Outs_of Left_of d M →
      BothWalk x tops A e 1 Outs_of Left_of d M
  other_both kind walk = walked_both x tops unwalked e 1 d t Left_of A M both (Up (IsSeenFrom x tops A) 1 Left_of) Outs_of
      (all x tops unwalked e d t n from ack ends u how A M named both) ends_so walk
    where
      ends_so : Ends x tops unwalked e 1 d t Left_of A M both (Up (IsSeenFrom x tops A) 1 Left_of) (left_disk Outs_of d)
      ends_so L W st disks inc same =
          let c : Disk = left_disk Outs_of d in
          let entry : SeesEntry x (names_left Outs_of d.names) W.disk = subst (λ z. SeesEntry x z W.disk) (left_names Outs_of d)
          (disks.entry (record { number = 1; disk = c; live = Some Left_of })
          (node_here L 1 (record { number = 1; disk = c; live = Some Left_of }))) in
          let q : Taken W = ⊎_elim (λ over. over_taken over W st disks.fixed entry) (λ nested. nested_taken nested W st disks.fixed)
          kind in (
            q.0,
            q.4,
            seen_as x tops 1 d (Some t) A M both Left_of q.0 L c q.2 q.3
                (subst (λ V. SeesDisks x tops V (up 1 c Left_of L)) (sym q.1) disks) inc same (λ o one is.
                subst (λ z. SeesNaming x tops z (q.0).world.disk (q.0).names) (some_is refl is) q.5) (λ other. absurd (never refl other)),
          )

pub other_ends_keep_both : OtherEndsKeepBoth
other_ends_keep_both x tops e d t v n from ack ends u how outs A M unwalked named is kind both walk =
    took_is x 1 tops e (λ p es. DisksWalk (λ z. false) x tops A e 1 es p d M → BothWalk x tops A e 1 es p d M) (Left x tops unwalked e d t n
    from ack ends u how A M named both) (Outs x tops unwalked e d t n from ack ends u how A M named both) v outs
    (sym (told_is x tops unwalked e d t n from ack ends u how A M named both) ∙ is)
    (λ w. other_both x tops unwalked e d t n from ack ends u how A M named both kind w) walk
