-- What is known in every run gives all that a quiesce takes of records and of what is prepared.
use Rattle.arj_law_parts.proofs.Words
use Words.{◌≡◌, ◌≢◌, ◌==◌, ◌∙◌, ℕ, Bool, true, false, cond, List, [], ◌∷◌, Option, Some, None, refl, sym, ap, subst, inl, inr, ⊎_elim}
use Words.{Contains, ◌++◌, ⊤, ◌&&◌, ◌||◌, not, is_some, nat_le, AllByRecursion, list_any, is_eq, Ordering, Less, Equal, Greater, uid_order}
use Words.{uid_is, uid_same, in_from, in_to, Ask, Head, Header, Kind, ObjectState, Uid, asks, first_uid, uid_eq, uids_of, Disk, Intent}
use Words.{is_prepared, is_deferred, is_member_of, Parts, at_uid, has, Node, at_place, is_open, is_open_branch, is_own, root_of, Post, Seen}
use Words.kind
use Rattle.arj_law_promise.proofs.Terms
use Terms.{Action, AreBegun, Stands, act_of, IsSettled, IsCommitting, AreOfTops, one_action, serial_alone, where_stands, in_at, order_exact}
use Terms.{IsGood, IsGoodOf, same_number, In, up, keeps_asked, AreAddressed, BindsAreKnown, kept as addresses_keep, AreRecorded, IsRecorded}
use Terms.{IsRooted, KeepsOf, IsTopOf, kept_of, coords_plain, of_both, of_more, records_of, SettlesAll, asked_both, AskersAreSettled}
use Terms.{AsksForItself, IsAskedNode, IsForItself, PreparedWereAsked, WasAsked, preparer, preparer_in, AskersSettle, DisksAreKnown}
use Terms.{KnowsPrepared}
use Terms.objects
use Rattle.arj_law_promise.proofs.settling.{AskedWalks.asked_of, Askers.askers_kept}
use Rattle.arj_law_promise.specs.settling.Settled.{HandlersSettle}
use Rattle.arj_law_runs.specs.resting.Quiet.{AreKept, IsPrepared}
use Rattle.arj_law_disk_view.specs.view.Pairs as pairs

never : {P : Type 0} {b : Bool} → b ≡ true → b ≡ false → P
never holds fails = let no_way : true ≡ false = sym holds ∙ fails in absurd (cc no_way)

-- ---- sorted maps, in the words of both

above_as : {X : Type 0} (u : Uid) (m : List (Uid × X)) → pairs.AreAbove u m → objects.AreAbove u m
above_as u [] all = tt
above_as u (e ∷ es) all = (all.0, above_as u es all.1)

pub sorted_as : {X : Type 0} (m : List (Uid × X)) → pairs.AreSorted m → objects.AreSorted m
sorted_as [] all = tt
sorted_as (e ∷ es) all = (above_as e.0 es all.0, sorted_as es all.1)

-- ---- roots

module _ (acts : List Action) (begun : AreBegun acts) where
  -- a root that isn't a serializing action has no constituent
  pub root_alone : (a : Action) → Contains acts a → a.kind ≢ kind.Nested → (u : Uid) → IsTopOf acts u → root_of a.path ≡ u → act_of a ≡ u
  root_alone a there unnested u top root = by a.kind refl (where_stands acts begun a (in_from a acts there))
    where
      single : uids_of a.path ≡ act_of a ∷ [] → act_of a ≡ u
      single is = ap first_uid (sym is) ∙ root

      by : (k : Kind) → a.kind ≡ k → Stands acts a k → act_of a ≡ u
      by kind.Top is s = single s.0
      by kind.Independent is s = single s.0
      by kind.Nested is s = absurd (unnested is)
      by kind.Serial is s = single (serial_alone acts begun a (in_from a acts there) is).0
      by kind.Constituent is s =
          let from = serial_alone acts begun s.0 (in_from s.0 acts s.1) s.2 in
          let same : act_of s.0 ≡ act_of top.0 = sym (ap first_uid (s.3 ∙ ap (λ us. us ++ act_of a ∷ []) from.0)) ∙ root ∙ sym top.2 in
          absurd (top.4 (ap (λ (b : Action). b.kind)
          (sym (one_action acts begun s.0 top.0 (in_from s.0 acts s.1) (in_from top.0 acts top.1) same)) ∙ s.2))

  -- so no record of another action is kept for it
  undeferred : (intents : List (Uid × Intent)) (u : Uid) (k : ℕ) → AreOfTops acts intents → ((w : Uid) (i : Intent) →
      Contains {X = Uid × Intent} intents (w, i) → IsRooted acts w i) → IsTopOf acts u → is_deferred u intents k ≡ false
  undeferred [] u k tops rooted top = refl
  undeferred (e ∷ es) u k tops rooted top = (λ i. member (uid_eq e.1.root u) refl (uid_eq e.0 u) refl i || list_any (is_member_of u k) es)
      ∙ undeferred es u k tops.1 (λ w i there. rooted w i (later (w, i) there)) top
    where
      later : (x : Uid × Intent) → Contains es x → Contains (e ∷ es) x
      later x there = in_to x (e ∷ es) (inr (in_from x es there))

      -- the record's action is its own root
      own : uid_eq e.1.root u ≡ true → e.0 ≡ u
      own is =
          let r = rooted e.0 e.1 (in_to e (e ∷ es) (inl refl)) in
          let t = tops.0 in
          let same : r.0 ≡ t.0 = one_action acts begun r.0 t.0 (in_from r.0 acts r.1) (in_from t.0 acts t.1) (r.2 ∙ sym t.2) in
          sym r.2 ∙ root_alone r.0 r.1 (λ nested. t.3 (ap (λ (b : Action). b.kind) (sym same) ∙ nested)) u top (r.3 ∙ uid_is e.1.root u is)

      member : (a : Bool) → uid_eq e.1.root u ≡ a → (b : Bool) → uid_eq e.0 u ≡ b → (a && (not b && has e.1.nodes k)) ≡ false
      member false apart b is = refl
      member true root true is = refl
      member true root false is = never (ap (λ w. uid_eq w u) (own root) ∙ uid_same u) is

-- ---- what is taken

module _ (hd : Header) where
  here : (n : ℕ) (d : Disk) (t : Parts) (M : Seen) →
      (let S = up n d t M in S.nodes n) ≡ Some (record { number = n; disk = d; live = Some t })
  here n d t M = λ i. cond (same_number n i) (Some (record { number = n; disk = d; live = Some t })) (M.nodes n)

  within : (M : Seen) (p : Post) → KnowsPrepared hd M → In p M.sent → (nat_le 1 p.to && nat_le p.to hd.nodes) ≡ true
  within M p k there = let a = k.1 in let so = a.1 in (so.1 p there).1

  module _ (n : ℕ) (d : Disk) (t : Parts) (M : Seen) (k : KnowsPrepared hd (up n d t M)) where
    good : IsGoodOf k.0.0.0 (up n d t M)
    good = k.0.0.1

    recorded : IsRecorded k.0.0.0 (record { number = n; disk = d; live = Some t })
    recorded = k.0.0.2.0 n (record { number = n; disk = d; live = Some t }) (here n d t M)

    asked : PreparedWereAsked k.0.0.0 (up n d t M)
    asked = k.0.0.2.1

    mine : IsAskedNode M.sent n (record { number = n; disk = d; live = Some t })
    mine = let a = asked in a.nodes n (record { number = n; disk = d; live = Some t }) (here n d t M)

    kept : AreKept d t
    kept = let m = mine in let r = recorded in record {
      store = sorted_as (let p = d.store in p.pend) (let s = m.store in s.sorted);
      names = sorted_as (let p = d.names in p.pend) (let s = m.names in s.sorted);
      telling = sorted_as t.coord.telling (r.live t refl).1;
    }

    told_again : (u : Uid) → is_some (at_uid u d.intents) ≡ true → is_some (at_uid u t.coord.telling) ≡ true
    told_again u is = by (at_uid u d.intents) refl is
      where
        by : (o : Option Intent) → at_uid u d.intents ≡ o → is_some o ≡ true → is_some (at_uid u t.coord.telling) ≡ true
        by None none some = absurd (cc some)
        by (Some i) there some = let r = recorded in let h = (r.live t refl).0 in let a = h.again u i there in ap (λ o. is_some o) a.1

    awaited : (u : Uid) (i : Intent) → at_uid u t.coord.telling ≡ Some i → i.nodes ≢ []
    awaited u i is = let r = recorded in let h = (r.live t refl).0 in h.awaited u i is

    -- of whom something is prepared this holds
    each_of : (Q : Uid → Type 0) (u : Uid) (m : List (Uid × List ObjectState)) → AllByRecursion (λ (e : Uid × List ObjectState). Q e.0) m →
        is_some (at_uid u m) ≡ true → Q u
    each_of Q u [] all is = absurd (cc is)
    each_of Q u (e ∷ es) all is = by (uid_order u e.0) refl is (each_of Q u es all.1)
      where
        by : (r : Ordering) → uid_order u e.0 ≡ r → is_some (cond (is_eq r) (Some e.1) (at_uid u es)) ≡ true →
            (is_some (at_uid u es) ≡ true → Q u) → Q u
        by Less order is rest = rest is
        by Equal order is rest = subst Q (sym (order_exact u e.0 order)) all.0
        by Greater order is rest = rest is

    naming : (u : Uid) → is_prepared u d.names ≡ true → is_some t.naming ≡ true
    naming u is =
        let m = mine in
        let s = m.names in
        let q = each_of (λ w. WasAsked M.sent w × (n ≡ 1)) u (let p = d.names in p.pend) s.each is in
        m.live t refl ∙ ap (λ j. j == 1) q.1

    -- whoever is prepared somewhere was asked for it
    was_asked : (j : ℕ) (a : Node) (u : Uid) → (up n d t M).nodes j ≡ Some a → IsPrepared u a.disk → WasAsked M.sent u
    was_asked j a u found is = let z = asked in let m = z.nodes j a found in ⊎_elim
        (λ stored. let s = m.store in each_of (WasAsked M.sent) u (let c = a.disk in let p = c.store in p.pend) s.each stored)
        (λ named. let s = m.names in
        (each_of (λ w. WasAsked M.sent w × (j ≡ 1)) u (let c = a.disk in let p = c.names in p.pend) s.each named).0) is

    prepared : (j : ℕ) (a : Node) (u : Uid) → (up n d t M).nodes j ≡ Some a → IsPrepared u a.disk → u.node ≡ n →
        (is_open u t.coord.tree ≡ true → IsCommitting u t.coord) × (is_deferred u d.intents j ≡ false)
    prepared j a u found is home =
        (at_commit, undeferred k.0.0.0 (let g = good in g.begun) d.intents u j tops rooted (let f = itself in f.top))
      where
        w : WasAsked M.sent u
        w = was_asked j a u found is

        request : (q : Head × Ask) × (asks w.0.message ≡ Some q) × (preparer q.0 q.1 ≡ Some u)
        request = by (asks w.0.message) refl w.2
          where
            by : (o : Option (Head × Ask)) → asks w.0.message ≡ o → preparer_in o ≡ Some u →
                (q : Head × Ask) × (asks w.0.message ≡ Some q) × (preparer q.0 q.1 ≡ Some u)
            by None none is = absurd (cc is)
            by (Some q) is for = (q, is, for)

        itself : IsForItself k.0.0.0 w.0.from request.0.0 u
        itself = let z = asked in subst (AsksForItself k.0.0.0 w.0.from) request.1 (z.sent w.0 w.1) u request.2

        settled : is_own u t.coord.tree ≡ true → IsSettled u t.coord
        settled own =
            let f = itself in
            let at_n : w.0.from ≡ n = sym f.home ∙ home in
            subst (λ v. IsSettled v t.coord) f.same
            (k.0.1.1 n (record { number = n; disk = d; live = Some t }) t (here n d t M) refl w.0 request.0.0 request.0.1 w.1 at_n
            request.1 (ap (λ (o : Option Uid). is_some o) request.2) (ap (λ v. is_own v t.coord.tree) f.same ∙ own))

        at_commit : is_open u t.coord.tree ≡ true → IsCommitting u t.coord
        at_commit opened = ⊎_elim
            (λ over. never opened (ap is_open_branch over.1 ∙ ap not over.2))
            (λ commits. commits) (settled (own_of (is_own u t.coord.tree) refl opened))
          where
            own_of : (b : Bool) → is_own u t.coord.tree ≡ b → is_open_branch (cond b (at_place u.num t.coord.tree.branches) None) ≡ true →
                is_own u t.coord.tree ≡ true
            own_of true is some = is
            own_of false is some = absurd (cc some)

        tops : AreOfTops k.0.0.0 d.intents
        tops = let g = good in let p = g.places n (record { number = n; disk = d; live = Some t }) (here n d t M) in let c = p.disk in
            c.tops

        rooted : (v : Uid) (i : Intent) → Contains {X = Uid × Intent} d.intents (v, i) → IsRooted k.0.0.0 v i
        rooted v i there = let r = recorded in let c = r.disk in
            c.each v i (in_at (v, i) d.intents (sorted_as d.intents c.sorted) (in_from (v, i) d.intents there))

  pub settles : SettlesAll hd (KnowsPrepared hd)
  settles = record {
    within = within;
    sorted = λ n d t M k. kept n d t M k;
    records = λ n d t M u k is. told_again n d t M k u is;
    naming = λ n d t M u k is. naming n d t M k u is;
    awaited = λ n d t M u i k is. awaited n d t M k u i is;
    prepared = λ n d t M j a u k found is home. prepared n d t M k j a u found is home;
  }

-- ---- kept

pub disks_keep : (hd : Header) → KeepsOf hd (λ begun M. ⊤) (λ begun M. AreRecorded begun M × PreparedWereAsked begun M)
disks_keep hd = of_both hd (λ begun M. ⊤) AreRecorded PreparedWereAsked
    (of_more hd (λ begun M. ⊤) (λ begun M. ⊤ × PreparedWereAsked begun M) AreRecorded (λ begun M h. tt) (records_of hd))
    (of_more hd (λ begun M. ⊤) (λ begun M. ⊤ × AreRecorded begun M) PreparedWereAsked (λ begun M h. tt) (asked_of hd))

pub handlers_settle : HandlersSettle
handlers_settle hd form = (
  asked_both hd (λ M. DisksAreKnown M × ((IsGood M × BindsAreKnown M) × AskersSettle M)) (AreAddressed hd)
      (asked_both hd DisksAreKnown (λ M. (IsGood M × BindsAreKnown M) × AskersSettle M)
      (keeps_asked hd DisksAreKnown (kept_of hd (λ begun M. AreRecorded begun M × PreparedWereAsked begun M) (disks_keep hd)))
      (keeps_asked hd (λ M. (IsGood M × BindsAreKnown M) × AskersSettle M)
      (coords_plain (λ s c. AskersAreSettled s.sent s.node c) askers_kept hd)))
      (addresses_keep hd form),
  settles hd,
)
