-- What a coordinator has taken note of stays as the machine goes on, and as its actions and roots change.
use Rattle.arj_law_parts.proofs.Words
use Words.{◌≡◌, ℕ, List, [], ◌∷◌, ◌++◌, Bool, true, false, cond, Option, Some, None, refl, sym, ◌∙◌, ap, subst, inl, inr, ⊎_elim}
use Words.{if◌then◌else◌, unwrap_or, AllByRecursion, list_any, is_eq, match_ordering, nat_cmp, Ordering, Less, Equal, Greater, uid_cases}
use Words.{Uid, ObjectState, Used, Voting, Preparing, Confirming, Coord, Doing, Joined, Root, Went, Now, Idle, Calling, Committing}
use Words.{doing_of, change_doing, on_doing, same_went, with_went, root_at, no_root, Intent, at_number, put_number, uid_number, is_open}
use Words.order
use Rattle.arj_law_disk_view.proofs.Terms
use Terms.{World, packed, Kinds, IsFixed, IsKnown, IsKnownIfThere, KnowsRoot, KnowsNow, IsSettled, IsLater, SeesNotes}
use Terms.mail
use Rattle.arj_law_disk_view.proofs.view.Doings.{doing_here, doing_other, doing_tree}

-- ---- lists

pub all_to : {A : Type 0} (P Q : A → Type 0) → ((a : A) → P a → Q a) → (xs : List A) → AllByRecursion P xs → AllByRecursion Q xs
all_to P Q f [] h = tt
all_to P Q f (a ∷ more) h = (f a h.0, all_to P Q f more h.1)

pub all_put : {X : Type 0} (Q : X → Type 0) (k : ℕ) (v : X) (m : List (ℕ × X)) → Q v → AllByRecursion (λ (e : ℕ × X). Q e.1) m →
    AllByRecursion (λ (e : ℕ × X). Q e.1) (put_number k v m)
all_put Q k v [] new old = (new, tt)
all_put {X} Q k v (e ∷ es) new old = by (nat_cmp k e.0) (all_put Q k v es new old.1)
  where
    by : (r : Ordering) → AllByRecursion (λ (e : ℕ × X). Q e.1) (put_number k v es) →
        AllByRecursion (λ (e : ℕ × X). Q e.1) (match_ordering r ((k, v) ∷ e ∷ es) ((e.0, v) ∷ es) (e ∷ put_number k v es))
    by Less ih = (new, old)
    by Equal ih = (new, old.1)
    by Greater ih = (old.0, ih)

pub all_at : {X : Type 0} (Q : X → Type 0) (k : ℕ) (m : List (ℕ × X)) (v : X) → AllByRecursion (λ (e : ℕ × X). Q e.1) m →
    at_number k m ≡ Some v → Q v
all_at Q k [] v all is = absurd (cc is)
all_at {X} Q k (e ∷ es) v all is = by (is_eq (nat_cmp k e.0)) (all_at Q k es v all.1) is
  where
    by : (b : Bool) → (at_number k es ≡ Some v → Q v) → cond b (Some e.1) (at_number k es) ≡ Some v → Q v
    by true ih h = let same : e.1 ≡ v = cc h in subst Q same all.0
    by false ih h = ih h

-- ---- the machine goes on

pub fixed_later : (tops : Kinds) (W V : World) → IsLater W V → IsFixed tops W.disk → IsFixed tops V.disk
fixed_later tops W V later f = record { root = later.root ∙ f.root; serial = later.serial ∙ f.serial }

module _ (x : ℕ) (W V : World) (later : IsLater W V) where
  pub known_later : (st : ObjectState) → IsKnown x W st → IsKnown x V st
  known_later st k is = later.known (packed st) (k is)

  there_later : (o : Option ObjectState) → IsKnownIfThere x W o → IsKnownIfThere x V o
  there_later None k = tt
  there_later (Some st) k = known_later st k

  pub root_later : (r : Root) → KnowsRoot x W r → KnowsRoot x V r
  root_later r k = record {
    joined = all_to (λ (j : Joined). IsKnown x W j.loaded) (λ (j : Joined). IsKnown x V j.loaded) (λ j h. known_later j.loaded h) r.joined
        k.joined;
    states = all_to (λ (s : ℕ × ObjectState). IsKnown x W s.1) (λ (s : ℕ × ObjectState). IsKnown x V s.1) (λ s h. known_later s.1 h)
        r.states k.states;
  }

  pub now_later : (now : Now) → KnowsNow x W now → KnowsNow x V now
  now_later Idle k = tt
  now_later (Calling s) k = tt
  now_later (Committing (Voting p left)) k = all_to (λ (u : Used). IsKnownIfThere x W u.loaded) (λ (u : Used). IsKnownIfThere x V u.loaded)
      (λ u h. there_later u.loaded h) p.used k
  now_later (Committing (Preparing p left)) k = tt
  now_later (Committing (Confirming p)) k = tt

  pub settled_later : (u : Uid) (i : Intent) (telling : List (Uid × Intent)) → IsSettled u i telling W → IsSettled u i telling V
  settled_later u i telling s = record {
    done = later.decided (uid_number u) s.done;
    awaited = λ m on. ⊎_elim (λ w. inl w) (λ a. inr (later.sent (mail.Acked (uid_number u) m) a)) (s.awaited m on);
  }

  pub notes_later : (intents : List (Uid × Intent)) (c : Coord) → SeesNotes x intents c W → SeesNotes x intents c V
  notes_later intents c n = record {
    settled = λ u i there. ⊎_elim (λ o. inl o) (λ s. inr (settled_later u i c.telling s)) (n.settled u i there);
    taken = λ u q m does on.
        ⊎_elim (λ d. inl (later.decided (uid_number u) d)) (λ b. inr (later.bare (uid_number u) b)) (n.taken u q m does on);
    roots = all_to (λ (r : ℕ × Root). KnowsRoot x W r.1) (λ (r : ℕ × Root). KnowsRoot x V r.1) (λ r h. root_later r.1 h) c.roots n.roots;
    plans = λ u q does. now_later q.now (n.plans u q does);
  }

-- ---- a coordinator's roots

-- what a root was sent is nothing that is known of it
pub went_known : (x : ℕ) (W : World) (w : Went) (r : Root) → KnowsRoot x W r → KnowsRoot x W (with_went w r)
went_known x W w r k = by (list_any (same_went w) r.went)
  where
    by : (b : Bool) → KnowsRoot x W (if b then r else record r { went = r.went ++ w ∷ [] })
    by true = k
    by false = record { joined = k.joined; states = k.states }

pub roots_noted : (x : ℕ) (W : World) (intents : List (Uid × Intent)) (c : Coord) (roots : List (ℕ × Root)) → SeesNotes x intents c W →
    AllByRecursion (λ (r : ℕ × Root). KnowsRoot x W r.1) roots → SeesNotes x intents (record c { roots = roots }) W
roots_noted x W intents c roots n all = record { settled = n.settled; taken = n.taken; roots = all; plans = n.plans }

-- ---- an action of it

pub doing_telling : (u : Uid) (f : Doing → Doing) (c : Coord) → (on_doing u f c).telling ≡ c.telling
doing_telling u f c = by (doing_of u c)
  where
    by : (o : Option Doing) → (change_doing f u c o).telling ≡ c.telling
    by None = refl
    by (Some d) = refl

pub doing_roots : (u : Uid) (f : Doing → Doing) (c : Coord) → (on_doing u f c).roots ≡ c.roots
doing_roots u f c = by (doing_of u c)
  where
    by : (o : Option Doing) → (change_doing f u c o).roots ≡ c.roots
    by None = refl
    by (Some d) = refl

pub doing_noted : (x : ℕ) (W : World) (intents : List (Uid × Intent)) (c : Coord) (u : Uid) (q : Doing) (f : Doing → Doing) →
    SeesNotes x intents c W → doing_of u c ≡ Some q → (let r = f q in r.took) ≡ q.took → KnowsNow x W (let r = f q in r.now)
    → SeesNotes x intents (on_doing u f c) W
doing_noted x W intents c u q f n does took now = record {
  settled = λ w i there. ⊎_elim (λ o. inl (ap (λ z. is_open w z) (doing_tree u f c) ∙ o))
      (λ s. inr (subst (λ ts. IsSettled w i ts W) (sym (doing_telling u f c)) s)) (n.settled w i there);
  taken = λ w r m is on. ⊎_elim
      (λ same. n.taken w q m (ap (λ z. doing_of z c) same ∙ does)
      (ap (λ ns. order.has ns m) (sym took ∙ ap (λ (z : Doing). z.took) (mine w r same is)) ∙ on))
      (λ other. n.taken w r m (sym (doing_other u w f c q does other) ∙ is) on)
      (uid_cases w u);
  roots = subst (λ rs. AllByRecursion (λ (r : ℕ × Root). KnowsRoot x W r.1) rs) (sym (doing_roots u f c)) n.roots;
  plans = λ w r is. ⊎_elim (λ same. subst (λ (z : Doing). KnowsNow x W z.now) (mine w r same is) now)
      (λ other. n.plans w r (sym (doing_other u w f c q does other) ∙ is)) (uid_cases w u);
}
  where
    mine : (w : Uid) (r : Doing) → w ≡ u → doing_of w (on_doing u f c) ≡ Some r → f q ≡ r
    mine w r same is = let e : ◌≡◌ {A = Option Doing} (Some (f q)) (Some r) = sym (doing_here u f c q does)
        ∙ ap (λ z. doing_of z (on_doing u f c)) (sym same) ∙ is in cc e

-- what is known of a root, also of one that isn't there
pub known_at : (x : ℕ) (W : World) (root : Uid) (c : Coord) → AllByRecursion (λ (r : ℕ × Root). KnowsRoot x W r.1) c.roots →
    KnowsRoot x W (root_at root c)
known_at x W root c all = by (at_number root.num c.roots) refl
  where
    by : (o : Option Root) → at_number root.num c.roots ≡ o → KnowsRoot x W (unwrap_or o no_root)
    by None is = record { joined = tt; states = tt }
    by (Some r) is = all_at (KnowsRoot x W) root.num c.roots r all is
