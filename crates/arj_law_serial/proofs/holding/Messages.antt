-- A message is handled: tables go on showing locks.
use Rattle.arj_law_parts.proofs.Words
use Words.{◌≡◌, ◌⊎◌, ◌∙◌, ◌==◌, ℕ, List, [], ◌∷◌, true, false, Option, Some, None, refl, sym, ap, subst, inl, inr, ⊎_elim, eqb-true}
use Words.{Contains, is_some, AllByRecursion, and_parts, entry, nobody, object, uid_eq, In, in_from, in_to, Ask, Body, End, Head, Message}
use Words.{Part, Path, Row, Uid, asks, Disk, Effect, FitsPath, NamingFollows, TablesFollow, ends_in, AreOfActions, Holders, rows_after}
use Words.{Naming, Handled, Parts, Took, Void, handle, AreAll, is_coord_effect, is_coord_line, is_naming_line, is_server_line, all_quiet}
use Words.{coord_quiet, Post, Seen}
use Words.ask
use Words.message
use Words.follow
use Rattle.arj_law_serial.proofs.Terms
use Terms.{Act, acts, table, Action, AreBegun, brought_by, told_by, FitsAsk, FitsAsked, FitsMessage, IsAsker, up, Up, Walks}
use Terms.{AreAlike, IsNamedBy, SaysPast, HasNaming, holders_in, is_steady, rows_on, named_locks}
use Terms.part
use Rattle.arj_law_serial.proofs.holding
use holding.{Facts.HaveNumbers, Facts.on_path, Facts.someone, Sorts.by_kind, Sorts.is_of}
use holding.Keeping.{Own, Shown, along_coord, along_steady, coord_of, others_of, own_of, rows_along, shown_walk}
use holding.Says.{All, handle_says, kind_says, outs_of}
use Rattle.arj_law_serial.proofs.tables.Holders.{path_fits}
use Rattle.arj_protocol.proofs.Follow.{handle_follows}

-- ---- messages fit

all_in : {A : Type 0} (P : A → Type 0) (xs : List A) → ((a : A) → In a xs → P a) → AllByRecursion P xs
all_in P [] each = tt
all_in P (x ∷ xs) each = (each x (inl refl), all_in P xs (λ a i. each a (inr i)))

module _ (begun : List Action) (all : AreBegun begun) (numbers : HaveNumbers begun) (xs : List Act) (alike : AreAlike begun xs) where
  abbrev h : Holders
  h = holders_in false xs

  asker : (p : Path) → IsAsker begun p → FitsPath h p
  asker p a = subst (FitsPath h) a.2 (path_fits begun xs all alike a.0 (in_from a.0 begun a.1))

  by_ask : (a : Head) (q : Ask) → FitsAsk begun a q → FitsPath h a.path
  by_ask a (ask.Invoke x b i ends op) f = asker a.path f.0
  by_ask a (ask.Vote i ties ends) f = asker a.path f.0
  by_ask a (ask.Bind x include avoid) f = asker a.path f
  by_ask a (ask.Load x) f = asker a.path f
  by_ask a (ask.Activate b st) f = asker a.path f
  by_ask a (ask.Record x b i g) f = asker a.path f
  by_ask a (ask.Prepare states) f = asker a.path f
  by_ask a (ask.Confirm grants excluded included) f = asker a.path f

  -- whoever is past is an action
  past_one : (u : Uid) → IsNamedBy begun u → uid_eq nobody u ≡ false
  past_one u named = someone u (on_path begun all numbers named.0 (in_from named.0 begun named.1) u named.2)

  of_actions : (ends : List (Uid × End)) → ((u : Uid) (e : End) → Contains {X = Uid × End} ends (u, e) → IsNamedBy begun u) →
      AreOfActions ends
  of_actions ends each = all_in (λ (e : Uid × End). uid_eq nobody e.0 ≡ false) ends (λ e i. past_one e.0 (each e.0 e.1 (in_to e ends i)))

  told_ends : (m : Message) → ((u : Uid) (e : End) → Contains {X = Uid × End} (told_by m) (u, e) → IsNamedBy begun u) → follow.FitsOther m
  told_ends (message.Told m) each = of_actions m.ends each
  told_ends (message.Acked m) each = tt
  told_ends (message.Query m) each = tt
  told_ends (message.Hello m) each = tt
  told_ends (message.Bind m) each = tt
  told_ends (message.Bound m) each = tt
  told_ends (message.Load m) each = tt
  told_ends (message.Loaded m) each = tt
  told_ends (message.Activate m) each = tt
  told_ends (message.Activated m) each = tt
  told_ends (message.RecordMsg m) each = tt
  told_ends (message.Recorded m) each = tt
  told_ends (message.Invoke m) each = tt
  told_ends (message.Invoked m) each = tt
  told_ends (message.Vote m) each = tt
  told_ends (message.Voted m) each = tt
  told_ends (message.Prepare m) each = tt
  told_ends (message.Prepared m) each = tt
  told_ends (message.Confirm m) each = tt
  told_ends (message.Confirmed m) each = tt

  -- what comes is by the paths of actions, with the ends of some
  pub message_fits : (lives : ℕ → Option Parts) (p : Post) → FitsMessage begun p.message → SaysPast begun lives p → follow.Fits h p.message
  message_fits lives p fits says = by (asks p.message) refl fits
    where
      brought_ends : (a : Head × Ask) → asks p.message ≡ Some a → (q : Ask) → a.1 ≡ q → AreOfActions (ends_in q)
      brought_ends a is (ask.Invoke x b i ends op) same =
          of_actions ends (λ u e c. (says.brings u e (subst (λ (o : Option (Head × Ask)). Contains {X = Uid × End} (brought_by o) (u, e))
          (sym is) (subst (λ (z : Ask). Contains {X = Uid × End} (ends_in z) (u, e)) (sym same) c))).0)
      brought_ends a is (ask.Vote i ties ends) same =
          of_actions ends (λ u e c. (says.brings u e (subst (λ (o : Option (Head × Ask)). Contains {X = Uid × End} (brought_by o) (u, e))
          (sym is) (subst (λ (z : Ask). Contains {X = Uid × End} (ends_in z) (u, e)) (sym same) c))).0)
      brought_ends a is (ask.Bind x include avoid) same = tt
      brought_ends a is (ask.Load x) same = tt
      brought_ends a is (ask.Activate b st) same = tt
      brought_ends a is (ask.Record x b i g) same = tt
      brought_ends a is (ask.Prepare states) same = tt
      brought_ends a is (ask.Confirm grants excluded included) same = tt

      by : (o : Option (Head × Ask)) → asks p.message ≡ o → FitsAsked begun p.message o → follow.FitsAsked h p.message o
      by None is f = told_ends p.message (λ u e c. (says.told u e c).0)
      by (Some a) is f = (by_ask a.0 a.1 f, brought_ends a is a.1 refl)

-- ---- its lines

server_of : (k : ℕ) (b : Body) → is_server_line k b ≡ true → is_of k b ≡ true
server_of k = by_kind (λ b. is_server_line k b ≡ true → is_of k b ≡ true)
    (λ b plain is. plain.of k)
    (λ l h u q is. refl)
    (λ m u x how is. (and_parts (m == k) _ is).0)
    (λ m u x is. absurd (cc is))
    (λ m x c is. is)
    (λ m u e q is. (and_parts (m == k) _ is).0)
    (λ m is. absurd (cc is))
    (λ m i is. absurd (cc is))

naming_of : (k : ℕ) → (k == 1) ≡ true → (b : Body) → is_naming_line b ≡ true → is_of k b ≡ true
naming_of k one = by_kind (λ b. is_naming_line b ≡ true → is_of k b ≡ true)
    (λ b plain is. plain.of k)
    (λ l h u q is. refl)
    (λ m u x how is. at m (and_parts (m == 1) _ is).0)
    (λ m u x is. at m (and_parts (m == 1) _ is).0)
    (λ m x c is. absurd (cc is))
    (λ m u e q is. at m (and_parts (m == 1) _ is).0)
    (λ m is. absurd (cc is))
    (λ m i is. absurd (cc is))
  where
    at : (m : ℕ) → (m == 1) ≡ true → (m == k) ≡ true
    at m is = ap (λ j. m == j) (eqb-true k 1 one) ∙ is

server_steady : (k : ℕ) (b : Body) → is_server_line k b ≡ true → is_steady b ≡ true
server_steady k = by_kind (λ b. is_server_line k b ≡ true → is_steady b ≡ true)
    (λ b plain is. plain.steady)
    (λ l h u q is. absurd (cc is))
    (λ m u x how is. refl)
    (λ m u x is. refl)
    (λ m x c is. refl)
    (λ m u e q is. refl)
    (λ m is. refl)
    (λ m i is. absurd (cc is))

naming_steady : (b : Body) → is_naming_line b ≡ true → is_steady b ≡ true
naming_steady = by_kind (λ b. is_naming_line b ≡ true → is_steady b ≡ true)
    (λ b plain is. plain.steady)
    (λ l h u q is. absurd (cc is))
    (λ m u x how is. refl)
    (λ m u x is. refl)
    (λ m x c is. refl)
    (λ m u e q is. refl)
    (λ m is. refl)
    (λ m i is. absurd (cc is))

module _ (k : ℕ) (d : Disk) (t v : Parts) (place : HasNaming k t) (from : ℕ) (m : Message) (outs : List Effect)
    (is : handle k d t from m ≡ Took v outs) where
  naming_there : (o : Naming) → t.naming ≡ Some o → (k == 1) ≡ true
  naming_there o there = sym place ∙ ap (λ (z : Option Naming). is_some z) there

  -- they are the node's own
  pub own_lines : All (is_of k) outs
  own_lines =
      ⊎_elim {C = All (is_of k) outs} (λ coord. kind_says (is_of k) is_coord_effect is_coord_line (λ b. refl) (coord_of k) outs (subst
      (λ (z : Handled). AreAll is_coord_effect (outs_of z)) is coord)) (λ all. subst (λ (z : Handled). All (is_of k) (outs_of z)) is all)
      (handle_says (is_of k) k ((k == 1) ≡ true) (server_of k) (naming_of k) (λ u r. refl) (λ u r e. refl) d t from m naming_there)

  -- they are the coordinator's, or none begins an action
  pub coord_or_steady : AreAll is_coord_effect outs ⊎ All is_steady outs
  coord_or_steady = ⊎_elim {C = AreAll is_coord_effect outs ⊎ All is_steady outs} (λ coord. inl (subst (λ (z : Handled).
      AreAll is_coord_effect (outs_of z)) is coord)) (λ all. inr (subst (λ (z : Handled). All is_steady (outs_of z)) is all))
      (handle_says is_steady k (Unit {0}) (server_steady k) (λ may. naming_steady) (λ u r. refl) (λ u r e. refl) d t from m (λ o there. tt))

  -- and do to rows what the protocol's laws say
  pub along_after : (begun : List Act) (p : Part) (o : Uid) (rows : List Row) →
      rows_along begun k p o outs rows ≡ rows_after (holders_in false begun) k p o outs rows
  along_after begun p o rows = ⊎_elim {C = rows_along begun k p o outs rows ≡ rows_after (holders_in false begun) k p o outs rows}
      (λ coord. let own = subst (λ (z : Handled). AreAll is_coord_effect (outs_of z)) is coord in along_coord begun k p o outs own rows
      ∙ sym (all_quiet (holders_in false begun) k p o is_coord_effect (coord_quiet (holders_in false begun) k p o) outs own rows))
      (λ all. along_steady begun k p o outs (subst (λ (z : Handled). All is_steady (outs_of z)) is all) rows)
      (handle_says is_steady k (Unit {0}) (server_steady k) (λ may. naming_steady) (λ u r. refl) (λ u r e. refl) d t from m (λ o there. tt))

-- ---- what is shown

module _ (first event e k : ℕ) (d : Disk) (t v : Parts) (M : Seen) (begun : List Action) (all : AreBegun begun)
    (numbers : HaveNumbers begun) (alike : AreAlike begun (acts M.lines)) (place : HasNaming k t) where
  pub named_follows : (x : ℕ) (outs : List Effect) (a b : Option Naming) → is_some a ≡ true → NamingFollows (holders_in false (acts
      M.lines)) x a outs b → named_locks x b ≡ rows_after (holders_in false (acts M.lines)) 1 part.Naming (entry x) outs (named_locks x a)
  named_follows x outs None b there f = absurd (cc there)
  named_follows x outs (Some a) None there f = absurd f
  named_follows x outs (Some a) (Some b) there f = f

  -- what the protocol's laws say of a message's lines
  pub message_follows : (from : ℕ) (m : Message) (outs : List Effect) (lives : ℕ → Option Parts) → FitsMessage begun m →
      SaysPast begun lives (record { from = from; to = k; message = m }) → handle k d t from m ≡ Took v outs → (x : ℕ) →
      TablesFollow (holders_in false (acts M.lines)) k x t outs v
  message_follows from m outs lives fits says is x = subst (follows_as x) is (handle_follows H k x d t from m
      (message_fits begun all numbers (acts M.lines) alike lives (record { from = from; to = k; message = m }) fits says))
    where
      H : Holders
      H = holders_in false (acts M.lines)

      follows_as : ℕ → Handled → Type 0
      follows_as x (Void es) = (p : Part) (n : ℕ) (o : Uid) (rows : List Row) → rows_after H n p o es rows ≡ rows
      follows_as x (Took w es) = TablesFollow H k x t es w

  pub message_shown : (from : ℕ) (m : Message) (outs : List Effect) (lives : ℕ → Option Parts) → FitsMessage begun m →
      SaysPast begun lives (record { from = from; to = k; message = m }) → handle k d t from m ≡ Took v outs →
      Shown first event (up k d t M) → Walks (Shown first event) e k outs (Up (Shown first event) k v) d M
  message_shown from m outs lives fits says is h =
      shown_walk first event e k v outs d M (own_lines k d t v place from m outs is) (others_of first event e k d (Some t) M h) own
    where
      H : Holders
      H = holders_in false (acts M.lines)

      follows : (x : ℕ) → TablesFollow H k x t outs v
      follows = message_follows from m outs lives fits says is

      own : Own first event e k v outs M.lines
      own since off =
          let s = own_of first event e k d (Some t) M h since off in (
            (λ x. let f = follows x in along_after k d t v place from m outs is (acts M.lines) part.Server (object x)
                (rows_on (object x) (table k M.lines)) ∙ ap (rows_after H k part.Server (object x) outs) (s.server x) ∙ sym f.server),
            (λ x one. let f = follows x in along_after k d t v place from m outs is (acts M.lines) part.Naming (entry x) (rows_on (entry x)
                (table k M.lines)) ∙ (λ i. rows_after H (eqb-true k 1 one i) part.Naming (entry x) outs (s.naming x one i))
                ∙ sym (named_follows x outs t.naming v.naming (place ∙ one) f.naming)),
          )
