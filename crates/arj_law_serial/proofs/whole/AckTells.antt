-- What a coordinator tells: an abort goes to no node that a record of the action, or of a constituent of it, lists; and an end that is to
-- be acknowledged has its record.
use Rattle.arj_law_parts.proofs.Words
use Words.{◌≡◌, ◌≢◌, ◌≤◌, ◌==◌, ◌∙◌, arith, ℕ, List, [], ◌∷◌, ◌++◌, length, map, filter, Bool, true, false, cond, not, ◌&&◌, ◌||◌, Option}
use Words.{Some, None, Contains, refl, sym, ap, subst, inl, inr, eqb-true, ⊤, is_some, AllByRecursion, flat_map, and_parts, uid_is}
use Words.{uid_same, in_filter, in_from, in_to, Ask, Body, End, Head, Kind, Label, Message, Uid, first_uid, request, uid_eq, uids_of, Coord}
use Words.{Doing, doing_of, nodes_sent, root_at, servers_told, Do, Effect, Intent, PutIntent, RemoveIntent, Say, Send, Work, answer_decided}
use Words.{answer_query, answer_recorded, is_deferred, is_kept_commit, is_member_of, let_go, root_or_self, say_for, says, tell, tell_all}
use Words.{tolds_by, tolds_let_go, tolds_of, tolds_of_branch, up_to, query_about, at_uid, has, tolds_again, Branch, branch_of, ends_of}
use Words.{is_open, root_of}
use Words.list
use Words.ask
use Words.ending
use Words.kind
use Words.message
use Rattle.arj_law_serial.proofs.Terms
use Terms.{is_over, Action, AreBegun, action_of, act_of, paths_of, IsGoodCoord, AreOfCommits, IsSure, told_by, IsDecided, IsTopAction}
use Terms.{one_action, none_in, found_by, any_in, IsRooted, Stood, stood, IsTopOf, AreInner, IsPartOf, acked_in, demanded}
use Rattle.arj_law_parts.proofs.parts.Keys as keys

never : {A : Type 0} {b : Bool} → b ≡ true → b ≡ false → A
never a b = let no_way : true ≡ false = sym a ∙ b in absurd (cc no_way)

some_is : {A : Type 0} {a b : A} → Some a ≡ Some b → a ≡ b
some_is {A} {a} {b} is = let k : ◌≡◌ {A = Option A} (Some a) (Some b) = is in cc

up_in : (u : Uid) (es : List (Uid × End)) (x : Uid × End) → list.In x (up_to u es) → list.In x es
up_in u [] x none = none
up_in u (e ∷ es) x i = by (uid_eq e.0 u) i (up_in u es x)
  where
    by : (t : Bool) → list.In x (cond t (e ∷ []) (e ∷ up_to u es)) → (list.In x (up_to u es) → list.In x es) → list.In x (e ∷ es)
    by true (inl is) ih = inl is
    by true (inr none) ih = absurd none
    by false (inl is) ih = inl is
    by false (inr j) ih = inr (ih j)

-- work that leaves the records
abbrev pub IsIdle : Work → Type 0
IsIdle (PutIntent u i) = ⊥
IsIdle (RemoveIntent u) = ⊥
IsIdle w = ⊤

module _ (begun : List Action) (all : AreBegun begun) (k : ℕ) where
  -- of no part of the action a record lists the node
  abbrev pub Unlisted : List (Uid × Intent) → Uid → ℕ → Type 0
  Unlisted intents w to = (u : Uid) (i : Intent) → IsPartOf begun u w → IsTopOf begun u → at_uid u intents ≡ Some i →
      has i.nodes to ≡ true → ⊥

  -- What is told with these records: ends of actions of this node, of no abort a record lists the node, and what is to be acknowledged has
  -- its record; and nothing is acknowledged.
  pub record TellsSo (intents : List (Uid × Intent)) (to : ℕ) (m : Message) : Type 0 where
    pub home : (w : Uid) (e : End) → Contains {X = Uid × End} (told_by m) (w, e) → w.node ≡ k
    pub aborts : (w : Uid) → Contains {X = Uid × End} (told_by m) (w, ending.Abort) → Unlisted intents w to
    pub demands : (u : Uid) → demanded m ≡ Some u → (i : Intent) × (at_uid u intents ≡ Some i) × (u.node ≡ k)
    pub acks : acked_in m ≡ None

  abbrev pub TellSo : List (Uid × Intent) → Effect → Type 0
  TellSo intents (Say b) = ⊤
  TellSo intents (Send to m) = TellsSo intents to m
  TellSo intents (Do w) = IsIdle w

  abbrev pub AllTell : List (Uid × Intent) → List Effect → Type 0
  AllTell intents outs = AllByRecursion (TellSo intents) outs

  -- ---- kinds

  -- a constituent's root is serializing
  root_serial : (a : Action) → Contains begun a → a.kind ≡ kind.Constituent →
      (s : Action) × Contains begun s × (s.kind ≡ kind.Serial) × (act_of s ≡ root_of a.path)
  root_serial a there is = let s = subst (Stood begun a) is (stood begun all a there) in (s.0, s.1, s.2, ap first_uid (sym s.3))

  unserial : (b : Action) → Contains begun b → b.kind ≢ kind.Serial → (a : Action) → Contains begun a → a.kind ≡ kind.Constituent →
      root_of a.path ≡ act_of b → ⊥
  unserial b there plain a known is root =
      let s = root_serial a known is in
      plain (ap (λ (z : Action). z.kind) (sym (one_action begun all s.0 b (in_from s.0 begun s.1) (in_from b begun there) (s.3 ∙ root)))
      ∙ s.2)

  serial_short : (b : Action) → Contains begun b → 2 ≤ length (uids_of b.path) → b.kind ≢ kind.Serial
  serial_short b there long is = let s = subst (Stood begun b) is (stood begun all b there) in omega (arith, long, ap (λ us. length us) s.0)

  module _ (intents : List (Uid × Intent)) where
    abbrev Fine : List Effect → Type 0
    Fine outs = AllTell intents outs

    -- ---- whom records list

    -- of an action that isn't serializing
    pub plain_unlisted : (b : Action) (n : ℕ) → Contains begun b → b.kind ≢ kind.Serial →
        ((i : Intent) → at_uid (act_of b) intents ≡ Some i → has i.nodes n ≡ true → ⊥) → Unlisted intents (act_of b) n
    plain_unlisted b n there plain none u i part top at on = by part
      where
        by : IsPartOf begun u (act_of b) → ⊥
        by (inl same) = none i (ap (λ z. at_uid z intents) (sym same) ∙ at) on
        by (inr a) = unserial b there plain a.0 a.1 a.3 a.4

    -- where a record of a constituent isn't deferred to
    free_unlisted : ((u : Uid) (i : Intent) → at_uid u intents ≡ Some i → IsRooted begun u i) → (w : Uid) (n : ℕ) → (IsTopOf begun w →
        (i : Intent) → at_uid w intents ≡ Some i → has i.nodes n ≡ true → ⊥) → is_deferred w intents n ≡ false → Unlisted intents w n
    free_unlisted rooted w n none free u i part top at on = by part
      where
        by : IsPartOf begun u w → ⊥
        by (inl same) = none (subst (IsTopOf begun) same top) i (ap (λ z. at_uid z intents) (sym same) ∙ at) on
        by (inr a) = never (any_in (is_member_of w n) (u, i) intents (keys.at_in u i intents at) member) free
          where
            r : IsRooted begun u i
            r = rooted u i at

            root : i.root ≡ w
            root = sym r.3 ∙ ap (λ (z : Action). root_of z.path)
                (one_action begun all r.0 a.0 (in_from r.0 begun r.1) (in_from a.0 begun a.1) (r.2 ∙ sym a.2)) ∙ a.4

            other : uid_eq u w ≡ false
            other = off (uid_eq u w) refl
              where
                kinds : kind.Serial ≡ kind.Constituent → ⊥
                kinds is = cc is

                off : (b : Bool) → uid_eq u w ≡ b → uid_eq u w ≡ false
                off false is = is
                off true is =
                    let s = root_serial a.0 a.1 a.3 in
                    absurd (kinds (sym s.2 ∙ ap (λ (z : Action). z.kind) (one_action begun all s.0 a.0 (in_from s.0 begun s.1)
                    (in_from a.0 begun a.1) (s.3 ∙ a.4 ∙ sym (uid_is u w is) ∙ sym a.2)) ∙ a.3))

            member : is_member_of w n (u, i) ≡ true
            member = (λ j. uid_eq (root j) w && (not (other j) && on j)) ∙ ap (λ b. b && true) (uid_same w)

    -- ---- messages

    -- one that tells nothing
    pub silent : (to : ℕ) (m : Message) → told_by m ≡ [] → demanded m ≡ None → acked_in m ≡ None → TellsSo intents to m
    silent to m told wants acks = record {
      home = λ w e i. none_in w e (subst (λ es. Contains {X = Uid × End} es (w, e)) told i);
      aborts = λ w i. none_in w ending.Abort (subst (λ es. Contains {X = Uid × End} es (w, ending.Abort)) told i);
      demands = λ u is. let no_way : ◌≡◌ {A = Option Uid} None (Some u) = sym wants ∙ is in absurd (cc no_way);
      acks = acks;
    }

    pub request_so : (to : ℕ) (h : Head) (a : Ask) → TellsSo intents to (request h a)
    request_so to h (ask.Bind x include_it avoid) = silent to _ refl refl refl
    request_so to h (ask.Load x) = silent to _ refl refl refl
    request_so to h (ask.Activate b st) = silent to _ refl refl refl
    request_so to h (ask.Record x b j g) = silent to _ refl refl refl
    request_so to h (ask.Invoke x b j ends o) = silent to _ refl refl refl
    request_so to h (ask.Vote j ties ends) = silent to _ refl refl refl
    request_so to h (ask.Prepare states) = silent to _ refl refl refl
    request_so to h (ask.Confirm g x y) = silent to _ refl refl refl

    pub tell_both : (es fs : List Effect) → Fine es → Fine fs → Fine (es ++ fs)
    tell_both [] fs a b = b
    tell_both (e ∷ es) fs a b = (a.0, tell_both es fs a.1 b)

    pub tell_flat : {A : Type 0} (f : A → List Effect) (items : List A) → ((x : A) → list.In x items → Fine (f x)) → Fine (flat_map f items)
    tell_flat f [] each = tt
    tell_flat f (x ∷ xs) each = tell_both (f x) (flat_map f xs) (each x (inl refl)) (tell_flat f xs (λ y i. each y (inr i)))

    pub tell_map : {A : Type 0} (f : A → Effect) (items : List A) → ((x : A) → list.In x items → TellSo intents (f x)) → Fine (map f items)
    tell_map f [] each = tt
    tell_map f (x ∷ xs) each = (each x (inl refl), tell_map f xs (λ y i. each y (inr i)))

    pub tell_lines : (u : Uid) (f : Label → Body) (c : Coord) → Fine (says u f c)
    tell_lines u f c = by (doing_of u c)
      where
        by : (o : Option Doing) → Fine (say_for f o)
        by None = tt
        by (Some x) = (tt, tt)

    one_is : (u w : Uid) (how e : End) → Contains {X = Uid × End} ((u, how) ∷ []) (w, e) → (u ≡ w) × (how ≡ e)
    one_is u w how e i = by (in_from {X = Uid × End} (w, e) ((u, how) ∷ []) i)
      where
        by : list.In {X = Uid × End} (w, e) ((u, how) ∷ []) → (u ≡ w) × (how ≡ e)
        by (inl same) = (ap (λ (x : Uid × End). x.0) same, ap (λ (x : Uid × End). x.1) same)
        by (inr none) = absurd none

    -- one abort
    pub abort_so : (root w : Uid) (n : ℕ) → w.node ≡ k → Unlisted intents w n → TellSo intents (tell root false ((w, ending.Abort) ∷ []) n)
    abort_so root w n home free = record {
      home = λ z e i. subst (λ y. y.node ≡ k) (one_is w z ending.Abort e i).0 home;
      aborts = λ z i. subst (λ y. Unlisted intents y n) (one_is w z ending.Abort ending.Abort i).0 free;
      demands = λ u is. absurd (cc is);
      acks = refl;
    }

    -- one commit, with its record where it is to be acknowledged
    pub commit_so : (root w : Uid) (ack : Bool) (n : ℕ) → w.node ≡ k → (ack ≡ true → (i : Intent) × (at_uid w intents ≡ Some i)) →
        TellSo intents (tell root ack ((w, ending.Commit) ∷ []) n)
    commit_so root w ack n home has_it = record {
      home = λ z e i. subst (λ y. y.node ≡ k) (one_is w z ending.Commit e i).0 home;
      aborts = λ z i. absurd (ends (one_is w z ending.Commit ending.Abort i).1);
      demands = demands ack has_it;
      acks = refl;
    }
      where
        ends : ending.Commit ≡ ending.Abort → ⊥
        ends is = cc is

        demands : (b : Bool) → (b ≡ true → (i : Intent) × (at_uid w intents ≡ Some i)) → (u : Uid) →
            demanded (message.Told (record { root = root; ack = b; ends = (w, ending.Commit) ∷ [] })) ≡ Some u →
            (i : Intent) × (at_uid u intents ≡ Some i) × (u.node ≡ k)
        demands true has_it u is = let r = has_it refl in let same : w ≡ u = some_is is in
            (r.0, ap (λ z. at_uid z intents) (sym same) ∙ r.1, ap (λ (z : Uid). z.node) (sym same) ∙ home)
        demands false has_it u is = absurd (cc is)

    -- ---- a coordinator

    -- What is known of one that tells: it is good and sure, of this node, ends that it lists are of inner actions, and records of its
    -- actions are of committed ones.
    pub record Teller (c : Coord) : Type 0 where
      pub good : IsGoodCoord begun (paths_of begun) c
      pub sure : IsSure c
      pub node : c.tree.node ≡ k
      pub inner : (root : Uid) → AreInner c.tree (ends_of root c.tree)
      pub records : AreOfCommits intents c.tree

    pub own_home : (c : Coord) → Teller c → (u : Uid) (b : Branch) → branch_of u c.tree ≡ Some b → u.node ≡ k
    own_home c t u b is =
        eqb-true u.node c.tree.node (and_parts (u.node == c.tree.node) (u.inc == c.tree.inc) (found_by u c.tree b is).0).0 ∙ t.node

    recorded_commit : (c : Coord) → Teller c → (u : Uid) (b : Branch) (i : Intent) → branch_of u c.tree ≡ Some b →
        at_uid u intents ≡ Some i → b.ended ≡ Some ending.Commit
    recorded_commit c t u b i found at =
        let d = t.records u i (in_to (u, i) intents (keys.at_in u i intents at)) (found_by u c.tree b found).0 in
        ap (λ (z : Branch). z.ended) (some_is (sym found ∙ d.1)) ∙ d.2

    -- who is open has no record
    pub open_none : (c : Coord) → Teller c → (u : Uid) (b : Branch) (i : Intent) → branch_of u c.tree ≡ Some b → is_some b.ended ≡ false →
        at_uid u intents ≡ Some i → ⊥
    open_none c t u b i found opened at = never (ap is_some (recorded_commit c t u b i found at)) opened

    -- nor who was aborted
    aborted_none : (c : Coord) → Teller c → (u : Uid) → IsDecided u ending.Abort c.tree → (i : Intent) → at_uid u intents ≡ Some i → ⊥
    aborted_none c t u d i at = ends (some_is (sym d.2 ∙ recorded_commit c t u d.0 i d.1 at))
      where
        ends : ending.Abort ≡ ending.Commit → ⊥
        ends is = cc is

    pub known : (c : Coord) → Teller c → (u : Uid) (b : Branch) → branch_of u c.tree ≡ Some b →
        Contains begun (action_of b) × (act_of (action_of b) ≡ u)
    known c t u b is = (t.good.known u b is, t.good.tree.lists.places u b is)

    branch_unlisted : (c : Coord) → Teller c → (u : Uid) (b : Branch) (n : ℕ) → branch_of u c.tree ≡ Some b → b.kind ≢ kind.Serial →
        ((i : Intent) → at_uid u intents ≡ Some i → has i.nodes n ≡ true → ⊥) → Unlisted intents u n
    branch_unlisted c t u b n found plain none =
        let z = known c t u b found in
        subst (λ w. Unlisted intents w n) z.1
        (plain_unlisted (action_of b) n z.0 plain (λ i at. none i (ap (λ w. at_uid w intents) (sym z.1) ∙ at)))

    -- ---- tolds

    -- the ends of a root
    list_so : (c : Coord) → Teller c → (r u root : Uid) (n : ℕ) → TellSo intents (tell root false (up_to u (ends_of r c.tree)) n)
    list_so c t r u root n = record {
      home = λ w e i. own_home c t w (its w e i).0 (its w e i).1;
      aborts = aborts;
      demands = λ w is. absurd (cc is);
      acks = refl;
    }
      where
        there : (w : Uid) (e : End) → Contains {X = Uid × End} (up_to u (ends_of r c.tree)) (w, e) →
            Contains {X = Uid × End} (ends_of r c.tree) (w, e)
        there w e i = in_to {X = Uid × End} (w, e) (ends_of r c.tree)
            (up_in u (ends_of r c.tree) (w, e) (in_from {X = Uid × End} (w, e) (up_to u (ends_of r c.tree)) i))

        its : (w : Uid) (e : End) → Contains {X = Uid × End} (up_to u (ends_of r c.tree)) (w, e) → IsDecided w e c.tree
        its w e i = t.sure.lists r w e (there w e i)

        aborts : (w : Uid) → Contains {X = Uid × End} (up_to u (ends_of r c.tree)) (w, ending.Abort) → Unlisted intents w n
        aborts w i =
            let d = its w ending.Abort i in
            branch_unlisted c t w d.0 n d.1 (serial_short (action_of d.0) (known c t w d.0 d.1).0
            (t.inner r w ending.Abort d.0 (there w ending.Abort i) d.1)) (λ j at on. aborted_none c t w d j at)

    module _ (rooted : (u : Uid) (i : Intent) → at_uid u intents ≡ Some i → IsRooted begun u i) where
      top_unserial : (c : Coord) → Teller c → (u : Uid) (b : Branch) → branch_of u c.tree ≡ Some b → b.kind ≡ kind.Serial →
          IsTopOf begun u → ⊥
      top_unserial c t u b found is top =
          let z = known c t u b found in
          top.4 (ap (λ (x : Action). x.kind) (one_action begun all top.0 (action_of b) (in_from top.0 begun top.1)
          (in_from (action_of b) begun z.0) (top.2 ∙ sym z.1)) ∙ is)

      not_off : (b : Bool) → not b ≡ true → b ≡ false
      not_off true is = absurd (cc is)
      not_off false is = refl

      pub tolds_so : (c : Coord) → Teller c → (u : Uid) → ((i : Intent) → at_uid u intents ≡ Some i → ⊥) → Fine (tolds_of intents c u)
      tolds_so c t u none = by (branch_of u c.tree) refl
        where
          plain : (b : Branch) → branch_of u c.tree ≡ Some b → b.kind ≢ kind.Serial → (root : Uid) (nodes : List ℕ) →
              Fine (tell_all root false ((u, ending.Abort) ∷ []) nodes)
          plain b found unserial root nodes = tell_map (tell root false ((u, ending.Abort) ∷ [])) nodes
              (λ n i. abort_so root u n (own_home c t u b found) (branch_unlisted c t u b n found unserial (λ j at on. none j at)))

          kinds : (b : Branch) → branch_of u c.tree ≡ Some b → (kd : Kind) → b.kind ≡ kd → Fine (tolds_by u kd b.path intents c)
          kinds b found kind.Nested is = tell_map (tell (root_of b.path) false (up_to u (ends_of (root_of b.path) c.tree)))
              (servers_told u (root_at (root_of b.path) c) c) (λ n i. list_so c t (root_of b.path) u (root_of b.path) n)
          kinds b found kind.Serial is =
              tell_map (tell u false ((u, ending.Abort) ∷ [])) (filter (λ n. not (is_deferred u intents n)) (nodes_sent u (root_at u c)))
              (λ n i. abort_so u u n (own_home c t u b found) (free_unlisted rooted u n (λ top j at on. top_unserial c t u b found is top)
              (not_off (is_deferred u intents n) (in_filter (λ m. not (is_deferred u intents m)) n (nodes_sent u (root_at u c)) i).1)))
          kinds b found kind.Top is = plain b found (λ bad. cc (sym is ∙ bad)) (root_of b.path) (nodes_sent u (root_at (root_of b.path) c))
          kinds b found kind.Independent is =
              plain b found (λ bad. cc (sym is ∙ bad)) (root_of b.path) (nodes_sent u (root_at (root_of b.path) c))
          kinds b found kind.Constituent is =
              plain b found (λ bad. cc (sym is ∙ bad)) (root_of b.path) (nodes_sent u (root_at (root_of b.path) c))

          by : (o : Option Branch) → branch_of u c.tree ≡ o → Fine (tolds_of_branch u intents c o)
          by None is = tt
          by (Some b) is = kinds b is b.kind refl

      -- ---- questions

      pub query_so : (from : ℕ) (u : Uid) (c : Coord) → u.node ≡ k → Fine (answer_query from u intents c)
      query_so from u c home = first (is_open u c.tree || is_deferred u intents from) refl
        where
          root : Uid
          root = root_or_self u (branch_of u c.tree)

          decided_so : is_deferred u intents from ≡ false → ((i : Intent) → at_uid u intents ≡ Some i → has i.nodes from ≡ true → ⊥) →
              Fine (answer_decided from u c)
          decided_so free none = by (is_kept_commit from u c)
            where
              by : (b : Bool) →
                  Fine (cond b (tell root false ((u, ending.Commit) ∷ []) from ∷ []) (tell root false ((u, ending.Abort) ∷ []) from ∷ []))
              by true = (commit_so root u false from home (λ is. absurd (cc is)), tt)
              by false = (abort_so root u from home (free_unlisted rooted u from (λ top. none) free), tt)

          recorded_so : is_deferred u intents from ≡ false → (o : Option Intent) → at_uid u intents ≡ o → Fine (answer_recorded from u c o)
          recorded_so free None at =
              decided_so free (λ i is. let no_way : ◌≡◌ {A = Option Intent} None (Some i) = sym at ∙ is in absurd (cc no_way))
          recorded_so free (Some i) at = by (has i.nodes from) refl
            where
              by : (b : Bool) → has i.nodes from ≡ b →
                  Fine (cond b (tell i.root true ((u, ending.Commit) ∷ []) from ∷ []) (answer_decided from u c))
              by true on = (commit_so i.root u true from home (λ is. (i, at)), tt)
              by false off = decided_so free (λ j is on. never (ap (λ (z : Intent). has z.nodes from) (some_is (sym at ∙ is)) ∙ on) off)

          second : (a b : Bool) → (a || b) ≡ false → b ≡ false
          second true b is = absurd (cc is)
          second false b is = is

          first : (b : Bool) → (is_open u c.tree || is_deferred u intents from) ≡ b →
              Fine (cond b [] (answer_recorded from u c (at_uid u intents)))
          first true is = tt
          first false is = recorded_so (second (is_open u c.tree) (is_deferred u intents from) is) (at_uid u intents) refl

      -- ---- a record that goes

      pub let_go_so : (c : Coord) → c.tree.node ≡ k → (u : Uid) (i : Intent) → IsRooted begun u i → IsTopAction begun u →
          Fine (tolds_let_go u intents c (Some i))
      let_go_so c node u i r top = by (not (uid_eq i.root u)) refl (is_over (branch_of i.root c.tree)) refl
        where
          -- the root is another one, so it's serializing
          root_of_top : not (uid_eq i.root u) ≡ true → IsTopOf begun i.root → ⊥
          root_of_top other root =
              kinds r.0 r.1 (ap (λ (z : Action). z.kind) (one_action begun all r.0 top.0 (in_from r.0 begun r.1) (in_from top.0 begun top.1)
              (r.2 ∙ sym top.2))) r.2 r.3 top.0.kind refl
            where
              differ : (b : Bool) → not b ≡ true → b ≡ true → ⊥
              differ true is on = cc is
              differ false is on = cc on

              alone : (a : Action) → act_of a ≡ u → uids_of a.path ≡ act_of a ∷ [] → root_of a.path ≡ i.root → ⊥
              alone a its path same = differ (uid_eq i.root u) other ((λ j. uid_eq ((sym same ∙ ap first_uid path ∙ its) j) u) ∙ uid_same u)

              kinds : (a : Action) → Contains begun a → a.kind ≡ top.0.kind → act_of a ≡ u → root_of a.path ≡ i.root → (kd : Kind) →
                  top.0.kind ≡ kd → ⊥
              kinds a there same its at kind.Nested is = top.3 is
              kinds a there same its at kind.Serial is = alone a its (subst (Stood begun a) (same ∙ is) (stood begun all a there)).0 at
              kinds a there same its at kind.Top is = alone a its (subst (Stood begun a) (same ∙ is) (stood begun all a there)).0 at
              kinds a there same its at kind.Independent is = alone a its (subst (Stood begun a) (same ∙ is) (stood begun all a there)).0 at
              kinds a there same its at kind.Constituent is =
                  let s = root_serial a there (same ∙ is) in
                  root.4 (ap (λ (z : Action). z.kind) (one_action begun all root.0 s.0 (in_from root.0 begun root.1) (in_from s.0 begun s.1)
                  (root.2 ∙ sym at ∙ sym s.3)) ∙ s.2)

          at_root : (o : Option Branch) → branch_of i.root c.tree ≡ o → is_over o ≡ true → (let w = i.root in w.node) ≡ k
          at_root None at is = absurd (cc is)
          at_root (Some b) at is = eqb-true i.root.node c.tree.node
              (and_parts (i.root.node == c.tree.node) (i.root.inc == c.tree.inc) (found_by i.root c.tree b at).0).0 ∙ node

          first : (a b : Bool) → (a && b) ≡ true → a ≡ true
          first a b is = (and_parts a b is).0

          by : (a : Bool) → not (uid_eq i.root u) ≡ a → (b : Bool) → is_over (branch_of i.root c.tree) ≡ b →
              Fine (cond (a && b) (tell_all i.root false ((i.root, ending.Abort) ∷ []) (let_go i.root intents c i.nodes)) [])
          by false other b over = tt
          by true other false over = tt
          by true other true over = tell_map (tell i.root false ((i.root, ending.Abort) ∷ [])) (let_go i.root intents c i.nodes)
              (λ n j. abort_so i.root i.root n (at_root (branch_of i.root c.tree) refl over)
              (free_unlisted rooted i.root n (λ its z at on. root_of_top other its) (not_off (is_deferred i.root intents n)
              (first (not (is_deferred i.root intents n)) (has (nodes_sent i.root (root_at i.root c)) n)
              (in_filter (λ m. not (is_deferred i.root intents m) && has (nodes_sent i.root (root_at i.root c)) m) n i.nodes j).1))))

    -- ---- records told again

    pub again_so : (records : List (Uid × Intent)) → ((u : Uid) (i : Intent) → list.In {X = Uid × Intent} (u, i) records →
        ((j : Intent) × (at_uid u intents ≡ Some j)) × (u.node ≡ k)) → Fine (tolds_again records)
    again_so [] each = tt
    again_so (e ∷ es) each = let r = each e.0 e.1 (inl refl) in tell_both (tell_all e.1.root true ((e.0, ending.Commit) ∷ []) e.1.nodes)
        (tolds_again es) (tell_map (tell e.1.root true ((e.0, ending.Commit) ∷ [])) e.1.nodes
        (λ n i. commit_so e.1.root e.0 true n r.1 (λ is. r.0))) (again_so es (λ u i there. each u i (inr there)))

    pub queries_so : (us : List Uid) → Fine (map query_about us)
    queries_so us = tell_map query_about us (λ u i. silent u.node (message.Query (record { act = u })) refl refl refl)
