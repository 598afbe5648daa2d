-- What a coordinator knows of calls, as it goes on at one action.
use Rattle.arj_law_parts.proofs.Words
use Words.{◌≡◌, ◌≢◌, ◌⊎◌, ℕ, List, ◌++◌, true, false, cond, Option, Some, None, refl, sym, ◌∙◌, ap, subst, inl, inr, ⊎_elim, unwrap_or}
use Words.{is_eq, nat_cmp, uid_cases, Uid, first_uid, actor, Known, Steps, AtBind, AtLoad, AtActivate, AtNote, AtInvoke, At, Machine}
use Words.{Calling, Committing, Coord, Doing, Root, Said, change_doing, doing_of, is_call, kept_of, no_root, on_doing, on_root, root_at}
use Words.{set_doing, at_number, put_number, binding_number, Tree, at_place, is_own, root_of, put_same as put_number_same}
use Words.{put_other as put_number_other, one_or_two, Post}
use Words.list
use Words.ending
use Rattle.arj_law_runs.proofs.Terms
use Terms.{Paths, IsDecided, doing_other, In, Call, IsAsked, Answered, IsAnswered, IsCalledBy, Doomed, IsCovered, IsDoomed, IsFree, IsOver}
use Terms.{IsOwn, IsPlanned, IsSpent, IsTie, IsTied, IsTiedAt, IsWaiting, HasNoServer, KnowsCalls, Nowhere, Refused, Spent, WasRefused}
use Terms.{WasSpent}
use Rattle.arj_law_runs.specs.calls.Coords.{IsThere}

-- who was aborted stays so
abbrev pub KeepsAborts : Tree → Tree → Type 0
KeepsAborts t v = (w : Uid) → IsDecided w ending.Abort t → IsDecided w ending.Abort v

-- what is kept is of the same binding and server
abbrev pub IsStill : Option Known → Known → Type 0
IsStill o old = (new : Known) × (o ≡ Some new) × (binding_number new.binding ≡ binding_number old.binding) × (new.server ≡ old.server)

-- Nothing but this action stands on what the root keeps of the object: each call that was answered is spent, and nobody else waits in one.
pub record IsLoose (t : Tree) (u : Uid) (c : Coord) (root : Uid) (x : ℕ) : Type 0 where
  pub spent : (s : Said) → list.In s (root_at root c).said → s.x ≡ x → IsSpent t s.path
  pub alone : (w : Uid) (d : Doing) (s : Steps) → w ≢ u → doing_of w c ≡ Some d → d.now ≡ Calling s → s.x ≡ x → is_call s.goal ≡ true →
      (root_of s.path).num ≡ root.num → ⊥

-- one coordinator after another, where one action goes on, with the tree as it is at the end
pub record Goes (t : Tree) (u : Uid) (c e : Coord) : Type 0 where
  pub node : e.tree.node ≡ c.tree.node
  pub own : (w : Uid) → is_own w e.tree ≡ is_own w c.tree
  pub doings : (w : Uid) → w ≢ u → doing_of w e ≡ doing_of w c
  pub said : (root : Uid) (s : Said) → list.In s (root_at root c).said → list.In s (root_at root e).said
  pub kept : (root : Uid) (x : ℕ) (old : Known) → kept_of x (root_at root c) ≡ Some old →
      IsStill (kept_of x (root_at root e)) old ⊎ IsLoose t u c root x

-- what is known of calls but this action's own one
pub record Knowing (sent : List Post) (t : Tree) (u : Uid) (Q : ℕ → Call → Type 0) (c : Coord) : Type 0 where
  pub calls : (to : ℕ) (k : Call) → IsOwn sent c to k →
      Q to k ⊎ ((IsWaiting c to k × (actor (let h = k.head in h.path) ≢ u)) ⊎ IsOver sent t c to k)
  pub ties : (w : Uid) (d : Doing) (s : Steps) → w ≢ u → doing_of w c ≡ Some d → d.now ≡ Calling s → IsTied c s
  pub plans : (w : Uid) (d : Doing) (m : Machine) → w ≢ u → doing_of w c ≡ Some d → d.now ≡ Committing m → IsCovered sent t c w m

-- ---- what a step keeps

pub own_back : (sent : List Post) (c e : Coord) → e.tree.node ≡ c.tree.node → ((w : Uid) → is_own w e.tree ≡ is_own w c.tree) →
    (to : ℕ) (k : Call) → IsOwn sent e to k → IsOwn sent c to k
own_back sent c e node own to k o = record {
  asked = subst (λ n. IsAsked sent n to k) node o.asked;
  own = sym (own (actor (let h = k.head in h.path))) ∙ o.own;
  writing = o.writing;
}

still : (kept new : Option Known) (k : Known) → ((old : Known) → kept ≡ Some old → IsStill new old) → IsTie kept k → IsTie new k
still kept new k f (inl none) = inl none
still kept new k f (inr (old, is, same, server)) = let g = f old is in inr (g.0, g.1, g.2 ∙ same, g.3 ∙ server)

pub still_at : (kept new : Option Known) (at : At) → ((old : Known) → kept ≡ Some old → IsStill new old) → IsTiedAt kept at →
    IsTiedAt new at
still_at kept new (AtBind avoid) f tied = tt
still_at kept new (AtLoad k s rest) f tied = still kept new k f tied
still_at kept new (AtActivate k st) f tied = still kept new k f tied
still_at kept new (AtNote k i) f tied = still kept new k f tied
still_at kept new (AtInvoke k i) f tied = still kept new k f tied

module _ (sent : List Post) (t : Tree) (u : Uid) where
  -- answers stay
  module _ (c e : Coord) (own : (w : Uid) → is_own w e.tree ≡ is_own w c.tree) (says : (root : Uid) (s : Said) →
      list.In s (root_at root c).said → list.In s (root_at root e).said) where
    answered_on : (us : List Uid) (x : ℕ) → IsAnswered c us x → IsAnswered e us x
    answered_on us x a = record { said = a.said; there = says (first_uid us) a.said a.there; path = a.path; object = a.object }

    called_on : (us : List Uid) (x : ℕ) → IsCalledBy sent c us x → IsCalledBy sent e us x
    called_on us x a =
        record { rest = a.rest; answered = answered_on (us ++ a.rest) x a.answered; own = λ w on. own w ∙ a.own w on; merged = a.merged }

    planned_on : (used : _) (to : ℕ) (k : Call) → IsPlanned sent t c used to k → IsPlanned sent t e used to k
    planned_on used to k (WasRefused r) = WasRefused r
    planned_on used to k (HasNoServer z) = HasNoServer z
    planned_on used to k (WasSpent s) = WasSpent s
    planned_on used to k (IsThere q a) = IsThere q (answered_on _ _ a)

  pub covered_on : (c e : Coord) → e.tree.node ≡ c.tree.node → ((w : Uid) → is_own w e.tree ≡ is_own w c.tree) →
      ((root : Uid) (s : Said) → list.In s (root_at root c).said → list.In s (root_at root e).said) → (w : Uid) (m : Machine) →
      IsCovered sent t c w m → IsCovered sent t e w m
  covered_on c e node own says w m v = record {
    free = v.free;
    calls = λ to k o on. planned_on c e own says _ to k (v.calls to k (own_back sent c e node own to k o) on);
    votes = λ from z a states i is same s j. let r = v.votes from z a states
        (subst (λ n. In (record { from = from; to = n; message = z }) sent) node i) is same s j in (r.0, called_on c e own says _ _ r.1);
    changed = λ s i. called_on c e own says _ _ (v.changed s i);
  }

  over_on : (c e : Coord) → Goes t u c e → (to : ℕ) (k : Call) → IsOver sent t c to k → IsOver sent t e to k
  over_on c e g to k (Refused r) = Refused r
  over_on c e g to k (Nowhere z) = Nowhere z
  over_on c e g to k (Doomed d) = Doomed d
  over_on c e g to k (Spent s) = Spent s
  over_on c e g to k (Answered s) = by (g.kept (root_of (let h = k.head in h.path)) k.x s.kept s.keeps)
    where
      by : IsStill (kept_of k.x (root_at (root_of (let h = k.head in h.path)) e)) s.kept
          ⊎ IsLoose t u c (root_of (let h = k.head in h.path)) k.x → IsOver sent t e to k
      by (inl f) = Answered (record {
        said = s.said;
        there = g.said (root_of (let h = k.head in h.path)) s.said s.there;
        path = s.path;
        object = s.object;
        kept = f.0;
        keeps = f.1;
        binding = f.2 ∙ s.binding;
        server = f.3 ∙ s.server;
      })
      by (inr l) = Spent (subst (IsSpent t) s.path (l.spent s.said s.there s.object))

  pub knowing_on : (Q : ℕ → Call → Type 0) (c e : Coord) → Goes t u c e → Knowing sent t u Q c → Knowing sent t u Q e
  knowing_on Q c e g k = record {
    calls = λ to q o. known to q (k.calls to q (own_back sent c e g.node g.own to q o));
    ties = λ w d s other found now call. tied w d s other (sym (g.doings w other) ∙ found) now call;
    plans = λ w d m other found now. covered_on c e g.node g.own g.said w m (k.plans w d m other (sym (g.doings w other) ∙ found) now);
  }
    where
      known : (to : ℕ) (q : Call) → Q to q ⊎ ((IsWaiting c to q × (actor (let h = q.head in h.path) ≢ u)) ⊎ IsOver sent t c to q) →
          Q to q ⊎ ((IsWaiting e to q × (actor (let h = q.head in h.path) ≢ u)) ⊎ IsOver sent t e to q)
      known to q (inl mine) = inl mine
      known to q (inr (inl (w, other))) = inr (inl (
        record {
          doing = w.doing;
          step = w.step;
          found = g.doings (actor (let h = q.head in h.path)) other ∙ w.found;
          now = w.now;
          node = w.node;
          call = w.call;
        },
        other,
      ))
      known to q (inr (inr over)) = inr (inr (over_on c e g to q over))

      tied : (w : Uid) (d : Doing) (s : Steps) → w ≢ u → doing_of w c ≡ Some d → d.now ≡ Calling s → is_call s.goal ≡ true →
          IsTiedAt (kept_of s.x (root_at (root_of s.path) e)) s.at
      tied w d s other found now call = still_at (kept_of s.x (root_at (root_of s.path) c)) (kept_of s.x (root_at (root_of s.path) e)) s.at
          (λ old is. ⊎_elim (λ f. f) (λ (l : IsLoose t u c (root_of s.path) s.x). absurd (l.alone w d s other found now refl call refl))
          (g.kept (root_of s.path) s.x old is)) (k.ties w d s other found now call)

-- ---- one step after another

module _ (t : Tree) (u : Uid) where
  pub goes_then : (c d e : Coord) → Goes t u c d → Goes t u d e → Goes t u c e
  goes_then c d e g h = record {
    node = h.node ∙ g.node;
    own = λ w. h.own w ∙ g.own w;
    doings = λ w other. h.doings w other ∙ g.doings w other;
    said = λ root s i. h.said root s (g.said root s i);
    kept = λ root x old is. first root x old (g.kept root x old is);
  }
    where
      loose : (root : Uid) (x : ℕ) → IsLoose t u d root x → IsLoose t u c root x
      loose root x l = record {
        spent = λ s i same. l.spent s (g.said root s i) same;
        alone = λ w q s other found now object call same. l.alone w q s other (g.doings w other ∙ found) now object call same;
      }

      first : (root : Uid) (x : ℕ) (old : Known) → IsStill (kept_of x (root_at root d)) old ⊎ IsLoose t u c root x →
          IsStill (kept_of x (root_at root e)) old ⊎ IsLoose t u c root x
      first root x old (inr l) = inr l
      first root x old (inl f) = ⊎_elim (λ (q : IsStill (kept_of x (root_at root e)) f.0). inl (q.0, q.1, q.2 ∙ f.2, q.3 ∙ f.3))
          (λ l. inr (loose root x l)) (h.kept root x f.0 f.1)

  -- the same roots, and the same work but for one action
  pub goes_by : (c e : Coord) → e.tree.node ≡ c.tree.node → ((w : Uid) → is_own w e.tree ≡ is_own w c.tree) →
      ((w : Uid) → w ≢ u → doing_of w e ≡ doing_of w c) → e.roots ≡ c.roots → Goes t u c e
  goes_by c e node own doings roots = record {
    node = node;
    own = own;
    doings = doings;
    said = λ root s i. subst (λ (rs : List (ℕ × Root)). list.In s (unwrap_or (at_number root.num rs) no_root).said) (sym roots) i;
    kept = λ root x old is.
        inl (old, ap (λ (rs : List (ℕ × Root)). kept_of x (unwrap_or (at_number root.num rs) no_root)) roots ∙ is, refl, refl);
  }

  pub goes_tree : (c : Coord) (v : Tree) → v.node ≡ c.tree.node → ((w : Uid) → is_own w v ≡ is_own w c.tree) →
      Goes t u c (record c { tree = v })
  goes_tree c v node own = goes_by c (record c { tree = v }) node own (λ w other. λ i. cond (own w i) (at_place w.num c.doings) None) refl

  pub goes_work : (f : Doing → Doing) (c : Coord) → Goes t u c (on_doing u f c)
  goes_work f c = by (doing_of u c) refl
    where
      by : (o : Option Doing) → doing_of u c ≡ o → Goes t u c (change_doing f u c o)
      by None none = goes_by c c refl (λ w. refl) (λ w other. refl) refl
      by (Some d) found = goes_by c (set_doing u (f d) c) refl (λ w. refl) (λ w other. doing_other u w (f d) d c found other) refl

  -- one root, of which answers stay, and what is kept stays or is loose
  pub goes_root : (root : Uid) (f : Root → Root) (c : Coord) → ((s : Said) → list.In s (root_at root c).said →
      list.In s (f (root_at root c)).said) → ((x : ℕ) (old : Known) → kept_of x (root_at root c) ≡ Some old →
      IsStill (kept_of x (f (root_at root c))) old ⊎ IsLoose t u c root x) → Goes t u c (on_root root f c)
  goes_root root f c says keeps = record {
    node = refl;
    own = λ w. refl;
    doings = λ w other. refl;
    said = λ r s i. ⊎_elim (λ same.
        subst (λ (q : Root). list.In s q.said) (sym (changed r same)) (says s (subst (λ (q : Root). list.In s q.said) (as_root r same) i)))
        (λ apart. subst (λ (q : Root). list.In s q.said) (sym (left r apart.0)) i) (one_or_two root.num r.num);
    kept = λ r x old is. ⊎_elim
        (λ same. ⊎_elim (λ (g : IsStill (kept_of x (f (root_at root c))) old). inl (g.0, ap (kept_of x) (changed r same) ∙ g.1, g.2, g.3))
        (λ (l : IsLoose t u c root x). inr (loose r x same l)) (keeps x old (ap (kept_of x) (sym (as_root r same)) ∙ is)))
        (λ apart. inl (old, ap (kept_of x) (left r apart.0) ∙ is, refl, refl)) (one_or_two root.num r.num);
  }
    where
      as_root : (r : Uid) → root.num ≡ r.num → root_at r c ≡ root_at root c
      as_root r same = ap (λ n. unwrap_or (at_number n c.roots) no_root) (sym same)

      changed : (r : Uid) → root.num ≡ r.num → root_at r (on_root root f c) ≡ f (root_at root c)
      changed r same = ap (λ n. unwrap_or (at_number n (put_number root.num (f (root_at root c)) c.roots)) no_root) (sym same)
          ∙ ap (λ o. unwrap_or o no_root) (put_number_same root.num (f (root_at root c)) c.roots)

      left : (r : Uid) → is_eq (nat_cmp r.num root.num) ≡ false → root_at r (on_root root f c) ≡ root_at r c
      left r apart = ap (λ o. unwrap_or o no_root) (put_number_other root.num r.num (f (root_at root c)) c.roots apart)

      loose : (r : Uid) (x : ℕ) → root.num ≡ r.num → IsLoose t u c root x → IsLoose t u c r x
      loose r x same l = record {
        spent = λ s i object. l.spent s (subst (λ (q : Root). list.In s q.said) (as_root r same) i) object;
        alone = λ w d s other found now object call num. l.alone w d s other found now object call (num ∙ sym same);
      }

-- ---- from all that is known to this, and back

pub knowing_of : (paths : Paths) (sent : List Post) (t : Tree) (u : Uid) (Q : ℕ → Call → Type 0) (c : Coord) → KeepsAborts c.tree t →
    ((w : Uid) → IsDoomed c.tree w → IsDoomed t w) → ((w : Uid) (d : Doing) (m : Machine) → w ≢ u → doing_of w c ≡ Some d → d.now ≡
    Committing m → IsFree c.tree w → IsFree t w) → ((to : ℕ) (k : Call) → IsWaiting c to k → actor (let h = k.head in h.path) ≡ u → Q to k)
    → KnowsCalls paths sent c → Knowing sent t u Q c
knowing_of paths sent t u Q c decides doomed free mine knows = record {
  calls = λ to k o. ⊎_elim (λ w. ⊎_elim (λ same. inl (mine to k w same)) (λ other. inr (inl (w, other)))
      (uid_cases (actor (let h = k.head in h.path)) u)) (λ over. inr (inr (over_in to k over))) (knows.calls to k o);
  ties = λ w d s other found now. knows.ties w d s found now;
  plans = λ w d m other found now. let v = knows.plans w d m found now in record {
    free = free w d m other found now v.free;
    calls = λ to k o on. planned to k _ (v.calls to k o on);
    votes = v.votes;
    changed = v.changed;
  };
}
  where
    spent : (us : List Uid) → IsSpent c.tree us → IsSpent t us
    spent us s = (s.0, s.1, decides s.0 s.2)

    over_in : (to : ℕ) (k : Call) → IsOver sent c.tree c to k → IsOver sent t c to k
    over_in to k (Refused r) = Refused r
    over_in to k (Nowhere z) = Nowhere z
    over_in to k (Doomed d) = Doomed (doomed _ d)
    over_in to k (Spent s) = Spent (spent _ s)
    over_in to k (Answered s) = Answered s

    planned : (to : ℕ) (k : Call) (used : _) → IsPlanned sent c.tree c used to k → IsPlanned sent t c used to k
    planned to k used (WasRefused r) = WasRefused r
    planned to k used (HasNoServer z) = HasNoServer z
    planned to k used (WasSpent s) = WasSpent (spent _ s)
    planned to k used (IsThere q a) = IsThere q a
