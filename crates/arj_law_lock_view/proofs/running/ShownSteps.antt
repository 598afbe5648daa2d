-- A message that comes to a node shows to its server and to naming what their laws count on.
use Rattle.arj_law_parts.proofs.Words
use Words.{◌≡◌, ◌≢◌, ◌⊎◌, ◌∙◌, ℕ, List, [], ◌∷◌, true, false, Option, Some, None, refl, sym, ap, subst, inl, inr, ⊎_elim, Contains, arith}
use Words.{◌||◌, or_cases, in_to, Ask, Asked, End, Head, Kind, Message, Path, Uid, asks, before_last, is_held_by, is_on, Reply, answers}
use Words.{last_end, top_of, Grants, Marks, is_prepared, Named, Naming, at_number, Server, is_told, Post}
use Words.list
use Words.ask
use Words.ending
use Words.kind
use Words.message
use Rattle.arj_law_lock_view.proofs.Terms
use Terms.{Act, Root, Sub, is_top, root, State, by_cases, Action, act_of, owners_of, FitsAsk, FitsAsked, FitsMessage, Owners, begun_fits}
use Terms.{IsPlaced, IsReached, IsRightBelow, MayGo, IsAskingShown, IsMessageShown, IsTellingShown, IsAskedShown, IsEndShown, IsOtherShown}
use Terms.{IsRequestShown, IsShownBy, Site, HasNothingAt, ShowsEndAt, AreOneTree, IsCommittedSo, IsOfFamily, ShowsEnd, View, names_object}
use Terms.{Case, IsSeenIn, KnowsNaming, KnowsSpot, Spot, told_in, view_in, world_at, IsAnsweredSeen, IsAskedSeen, IsOtherSeen}
use Terms.{IsRequestSeen, IsToldSo, HasConfirm, SeesUp}
use Terms.seen
use Rattle.arj_law_lock_view.proofs.facts.Confirms.{grants_in, own_top}
use Rattle.arj_law_lock_view.proofs.running
use running.{ConfirmSteps.named_by, GoodSteps.of_family, OtherSteps.confirms_of, OtherSteps.here_of, TopSteps.owned_of, TopSteps.topped_of}
use Rattle.arj_law_lock_view.proofs.view.PlaceSteps.{Stood, alone, constituent, nested, stood}
use Rattle.arj_law_lock_view.proofs.view.SentSteps.{sent_are_shown}
use Rattle.arj_law_lock_view.proofs.view.ShownSteps.{ended_are_shown, is_four, over_are_shown, unvoted_are_shown}
use Rattle.arj_law_lock_view.specs.running.Beside.{IsConfirmedNow, IsToldAbort, IsToldCommit, IsUnitOver, place_in, server_at}
use Rattle.arj_law_lock_view.specs.view.{Namings.IsAsking, Telling.is_plain}
use Rattle.arj_law_parts.specs.parts.Messages.{FitsOther}

is_three : (n : ℕ) → (n ≡ 3) ⊎ (n ≡ 3 → ⊥)
is_three n = grind arith

module _ (c : Case) (s : Spot) (from : ℕ) (m : Message) (is_seen : IsSeenIn c (world_at s)) (knows : KnowsSpot c s)
    (there : seen.In (record { from = from; to = s.node; message = m }) (let M = s.seen in M.sent)) where
  abbrev pub v : View
  v = view_in c s.node

  abbrev pub S : State
  S = c.state

  abbrev pub srv : Server
  srv = server_at s

  abbrev pub post : Post
  post = record { from = from; to = s.node; message = m }

  abbrev pub whole : AreOneTree v.family
  whole = let a = is_seen.agrees in a.whole

  pub reached : IsReached S
  reached = ((let f = c.fixed in f.first), (let z = is_seen.sees in z.run))

  pub up_here : SeesUp v S s.disk s.parts
  up_here = here_of c.fixed c.x c.begun s.node s.disk (Some s.parts) S s.seen is_seen.sees

  pub its_family : IsOfFamily v.family srv
  its_family = of_family c s is_seen knows.server

  claim : IsAskedSeen v (let M = s.seen in M.sent) post S (asks m)
  claim = let z = is_seen.sees in z.posts post there

  fits : FitsMessage c.begun m
  fits = let g = is_seen.good in g.fits post there

  over_or : (u : Uid) → IsUnitOver c u ⊎ (IsUnitOver c u → ⊥)
  over_or u = is_three (let a = S.action (Root (root (place_in c u))) in a.stage)

  -- ---- ends that are told

  told_here : (n : Message) → n ≡ m → (u : Uid) → Contains {X = Uid × End} (told_in n) (u, ending.Abort) → IsToldAbort s u
  told_here n is u told =
      record { post = post; sent = there; to = refl; told = subst (λ z. Contains {X = Uid × End} (told_in z) (u, ending.Abort)) is told }

  -- to the server
  shows_end : (u : Uid) (e : End) → (e ≡ ending.Abort → IsToldAbort s u) → IsToldSo v S u e → is_told u srv ≡ false → ShowsEnd v S u e
  shows_end u ending.Commit told so fresh = ended_are_shown v u ending.Commit S so
  shows_end u ending.Abort told (inl gone) fresh = ended_are_shown v u ending.Abort S gone
  shows_end u ending.Abort told (inr so) fresh = ⊎_elim
      (λ over. ⊎_elim (λ gone. ended_are_shown v u ending.Abort S gone)
      (λ never. over_are_shown v u srv S reached whole its_family up_here.server over (let k = knows.server in
      k.left u (told refl) fresh over never)) (is_four (let a = S.action (place_in c u) in a.stage)))
      (λ open_unit. ⊎_elim (λ over. absurd (open_unit over.0)) (λ top. unvoted_are_shown v u srv S up_here.server fresh
      (let k = knows.server in k.unvoted u (told refl) fresh top open_unit) top.0 top.1) so)
      (over_or u)

  telling : (n : Message) → n ≡ m → IsOtherSeen v S n → FitsOther c.begun n → IsTellingShown v srv S n
  telling (message.Told q) is said ordered = record {
    whole = whole;
    server = its_family;
    ordered = ordered;
    shown = λ u e there fresh. shows_end u e (λ abort.
        told_here (message.Told q) is u (subst (λ (z : End). Contains {X = Uid × End} q.ends (u, z)) abort there)) (said u e there) fresh;
  }
  telling _ is said ordered = tt

  answering : (n : Message) (r : Asked × Reply) → answers n ≡ Some r → IsTellingShown v srv S n
  answering (message.Told q) r is = absurd (cc is)
  answering _ r is = tt

  pub shown_to_server : IsMessageShown v srv S m
  shown_to_server = by (asks m) refl claim fits
    where
      other : (o : Option (Asked × Reply)) → answers m ≡ o → IsAnsweredSeen v (let M = s.seen in M.sent) post S o → FitsOther c.begun m →
          IsTellingShown v srv S m
      other None is said ordered = telling m refl said ordered
      other (Some r) is said ordered = answering m r is

      by : (o : Option (Head × Ask)) → asks m ≡ o → IsAskedSeen v (let M = s.seen in M.sent) post S o → FitsAsked c.begun m o →
          IsAskingShown v srv S m o
      by None is said fit = other (answers m) refl said fit
      by (Some q) is said fit = sent_are_shown v q.0 q.1 srv S reached whole its_family fit
          (record { says = said.says; wanted = (let a = is_seen.agrees in a.wanted post q.0 q.1 there is); ended = said.ended })

  -- ---- to naming

  abbrev owner : Owners
  owner = owners_of c.begun

  abbrev site : Site
  site = record { view = v; owner = owner; disk = s.disk }

  module _ (n : Naming) (at_naming : (let t = s.parts in t.naming) ≡ Some n) (k : KnowsNaming c s n) where
    asking : (a : Action) → Contains c.begun a → a.kind ≢ kind.Serial → IsAsking v owner a.path n
    asking a i unserial = record {
      one = (let l = whole.alike in l.one);
      topped = topped_of v.family whole a i unserial;
      fits = begun_fits c.begun whole.begun a i unserial;
      good = (let h = k.holds in h.good);
    }

    asking_by : (p : Path) → (a : Action) × Contains c.begun a × (a.path ≡ p) × (a.kind ≢ kind.Serial) → IsAsking v owner p n
    asking_by p (a, i, path, unserial) = subst (λ (q : Path). IsAsking v owner q n) path (asking a i unserial)

    -- whom naming confirmed, or whose entries are prepared, the machine's naming confirmed once, if the Confirm names the object
    confirmed_once : (h : Head) (grants : Grants) (excluded included : Marks) → asks m ≡ Some (h, ask.Confirm grants excluded included) →
        (g : ℕ) → Contains {X = ℕ × ℕ} grants (c.x, g)
        → (is_on n.confirmed (top_of h.path) || is_prepared (top_of h.path) (let d = s.disk in d.names)) ≡ true →
        S.confirmed (place_in c (top_of h.path)) ≡ true
    confirmed_once h grants excluded included is g given was =
        let one = had.top in
        let top = own_top c.x c.begun (world_at s) is_seen.good knows.parted in
        let who = sym (top post h grants excluded included there is) ∙ sym one
        ∙ top had.post had.head had.grants had.excluded had.included had.there had.is in
        let same = (let p = knows.parted in p.one) post had.post h had.head (ask.Confirm grants excluded included)
        (ask.Confirm had.grants had.excluded had.included) there had.there is had.is refl refl who in
        had.confirmed (ap (λ (a : Ask). names_object c.x (grants_in a)) (sym same) ∙ named_by c.x g grants given)
      where
        had : HasConfirm c.fixed c.x S (let M = s.seen in M.sent) (top_of h.path)
        had = (confirms_of c.fixed c.x c.begun s.node s.disk (Some s.parts) S s.seen is_seen.sees).0 (top_of h.path)
            (⊎_elim (λ on. inr (s.parts, n, refl, at_naming, on)) (λ prepared. inl prepared)
            (or_cases (is_on n.confirmed (top_of h.path)) (is_prepared (top_of h.path) (let d = s.disk in d.names)) was))

    request_shown : (h : Head) (a : Ask) → asks m ≡ Some (h, a) → FitsAsk c.begun h a → IsRequestSeen v h a S → IsRequestShown site n S h a
    request_shown h (ask.Bind y include avoid) is fit said = (asking_by h.path fit, said.names)
    request_shown h (ask.Record y b i g) is fit said = (asking_by h.path fit, said.names)
    request_shown h (ask.Confirm grants excluded included) is fit said =
        (asking_by h.path fit, record { sent = said.names; again = confirmed_once h grants excluded included is })
    request_shown h _ is fit said = tt

    -- ends
    may_go : (u : Uid) → IsToldAbort s u → IsToldSo v S u ending.Abort → is_on n.told u ≡ false → MayGo S (place_in c u)
    may_go u told (inl gone) fresh = inl (inl gone)
    may_go u told (inr (inl over)) fresh = inl (inr over.0)
    may_go u told (inr (inr top)) fresh = ⊎_elim
        (λ over. inl (inr over))
        (λ open_unit. ⊎_elim (λ confirmed. absurd (k.unconfirmed u told fresh top open_unit confirmed))
        (λ not_confirmed. inr (top.0, top.1, not_confirmed)) (by_cases (let o = S.naming in o.confirmed (place_in c u))))
        (over_or u)

    committed_shown : (o : Named) (u : Uid) → at_number c.x n.objects ≡ Some o → IsToldCommit s u → IsCommittedSo v.family u S →
        is_on n.told u ≡ false → ShowsEndAt v n o S u ending.Commit
    committed_shown o u at told so fresh = by so.action.kind refl
      where
        told_it : IsToldCommit s (act_of so.action)
        told_it = subst (IsToldCommit s) (sym so.of) told

        fresh_it : is_on n.told (act_of so.action) ≡ false
        fresh_it = ap (is_on n.told) so.of ∙ fresh

        passes : so.action.kind ≡ kind.Constituent → (h : Uid) (unit : ℕ) → IsRightBelow v.family.act v.family.paths u h S →
            place_in c h ≡ Root unit → ShowsEndAt v n o S u ending.Commit
        passes of h unit under serial = ⊎_elim
            (λ confirmed. inr (inl (
              h,
              record {
                unit = unit;
                number = under.number;
                serial = serial;
                below = stands;
                committed = under.committed;
                heirs = λ r there held. k.heirs o so.action at so.begun of told_it fresh_it (subst (IsConfirmedNow c) (sym so.of) confirmed)
                    r there (ap (λ (w : Uid). is_held_by w r) so.of ∙ held)
                    ∙ ap before_last (sym (whole.agree so.action so.begun) ∙ ap v.family.paths so.of) ∙ under.parent;
              },
            )))
            (λ not_confirmed. inl (inr (ap is_top stands, under.committed, not_confirmed)))
            (by_cases (let o = S.naming in o.confirmed (place_in c u)))
          where
            stands : place_in c u ≡ Sub (Root unit) under.number
            stands = under.below ∙ ap (λ (a : Act). Sub a under.number) serial

        goes : so.action.kind ≡ kind.Constituent → Stood v.family so.action S → ShowsEndAt v n o S u ending.Commit
        goes of (nested h nest under action) = absurd (let bad : kind.Constituent ≡ kind.Nested = sym of ∙ nest in cc bad)
        goes of (constituent h unit unlike under serial) =
            passes of h unit (subst (λ (w : Uid). IsRightBelow v.family.act v.family.paths w h S) so.of under) serial
        goes of (alone unlike lone) = inl (inl (inr (ap (λ (w : Uid). (let z = S.action (Root (root (place_in c w))) in z.stage))
            (sym so.of) ∙ ap (λ (a : Act). (let z = S.action (Root (root a)) in z.stage)) lone.below ∙ lone.over)))

        plain : is_plain so.action.kind ≡ true → ShowsEndAt v n o S u ending.Commit
        plain is = inl (inl (inr (so.over is)))

        by : (d : Kind) → so.action.kind ≡ d → ShowsEndAt v n o S u ending.Commit
        by kind.Top is = plain (ap is_plain is)
        by kind.Independent is = plain (ap is_plain is)
        by kind.Serial is = absurd (so.unserial is)
        by kind.Nested is = inr (inr (
          subst (HasNothingAt n o) so.of (k.nothing o so.action at so.begun is told_it fresh_it),
          ap (λ (w : Uid). is_top (place_in c w)) (sym so.of)
              ∙ (subst (IsPlaced (place_in c (act_of so.action))) is (whole.placed so.action so.begun)).1,
        ))
        by kind.Constituent is =
            goes is (stood v.family whole so.action so.begun so.unserial S (ap (λ (w : Uid). (let z = S.action (place_in c w) in z.stage))
            so.of ∙ so.committed) (λ its. ap (λ (w : Uid). (let z = S.action (Root (root (place_in c w))) in z.stage)) so.of ∙ so.over its))

    end_shown : (e : Option (Uid × End)) → ((u : Uid) → e ≡ Some (u, ending.Commit) → IsToldCommit s u) → ((u : Uid) →
        e ≡ Some (u, ending.Abort) → IsToldAbort s u) → ((u : Uid) (f : End) → e ≡ Some (u, f) → IsToldSo v S u f) → IsEndShown site n S e
    end_shown None commit abort said = tt
    end_shown (Some (u, f)) commit abort said = record {
      one = (let l = whole.alike in l.one);
      owned = owned_of v.family whole;
      good = (let h = k.holds in h.good);
      shown = λ o at fresh. by f commit abort said o at fresh;
    }
      where
        by : (f : End) → ((w : Uid) → ◌≡◌ {A = Option (Uid × End)} (Some (u, f)) (Some (w, ending.Commit)) → IsToldCommit s w) →
            ((w : Uid) → ◌≡◌ {A = Option (Uid × End)} (Some (u, f)) (Some (w, ending.Abort)) → IsToldAbort s w) →
            ((w : Uid) (g : End) → ◌≡◌ {A = Option (Uid × End)} (Some (u, f)) (Some (w, g)) → IsToldSo v S w g)
            → (o : Named) → at_number c.x n.objects ≡ Some o → is_on n.told u ≡ false → ShowsEndAt v n o S u f
        by ending.Abort commit abort said o at fresh = may_go u (abort u refl) (said u ending.Abort refl) fresh
        by ending.Commit commit abort said o at fresh = committed_shown o u at (commit u refl) (said u ending.Commit refl) fresh

    last_in : (u : Uid) (e : End) (es : List (Uid × End)) → last_end es ≡ Some (u, e) → list.In {X = Uid × End} (u, e) es
    last_in u e [] is = absurd (cc is)
    last_in u e (f ∷ []) is = inl (let same : f ≡ (u, e) = cc is in same)
    last_in u e (f ∷ g ∷ es) is = inr (last_in u e (g ∷ es) is)

    other_shown : (q : Message) → q ≡ m → IsOtherSeen v S q → IsOtherShown site n S q
    other_shown (message.Told q) is said = end_shown (last_end q.ends)
        (λ u last. record { post = post; sent = there; to = refl; told = ap (λ z. last_end (told_in z)) (sym is) ∙ last })
        (λ u last. told_here (message.Told q) is u (in_to {X = Uid × End} (u, ending.Abort) q.ends (last_in u ending.Abort q.ends last)))
        (λ u f last. said u f (in_to {X = Uid × End} (u, f) q.ends (last_in u f q.ends last)))
    other_shown _ is said = tt

    answering_named : (q : Message) (r : Asked × Reply) → answers q ≡ Some r → IsOtherShown site n S q
    answering_named (message.Told q) r is = absurd (cc is)
    answering_named _ r is = tt

    shown_at : IsAskedShown site n S m (asks m)
    shown_at = by (asks m) refl claim fits
      where
        other : (o : Option (Asked × Reply)) → answers m ≡ o → IsAnsweredSeen v (let M = s.seen in M.sent) post S o →
            IsOtherShown site n S m
        other None is said = other_shown m refl said
        other (Some r) is said = answering_named m r is

        by : (o : Option (Head × Ask)) → asks m ≡ o → IsAskedSeen v (let M = s.seen in M.sent) post S o → FitsAsked c.begun m o →
            IsAskedShown site n S m o
        by None is said fit = other (answers m) refl said
        by (Some q) is said fit = request_shown q.0 q.1 is fit said

  pub shown_to_naming : IsShownBy site S m (asks m) (let t = s.parts in t.naming)
  shown_to_naming = by (let t = s.parts in t.naming) refl
    where
      by : (o : Option Naming) → (let t = s.parts in t.naming) ≡ o → IsShownBy site S m (asks m) o
      by None is = tt
      by (Some n) is = shown_at n is (knows.naming n is)
