-- What a coordinator has of a root, where it took note of what isn't about the object, or of the same binding again.
use Rattle.arj_law_parts.proofs.Words
use Words.{◌≡◌, ◌⊎◌, ◌≤◌, ℕ, ◌==◌, ◌&&◌, ◌||◌, Bool, true, Option, Some, None, refl, sym, ◌∙◌, ap, subst, inl, inr, ⊎_elim, arith, Contains}
use Words.{list_any, and_parts, In, in_from, in_to, Binding, Uid, Known, Coord, Grant, Joined, Root, Said, granted_with}
use Words.{is_kept_top, kept_of, survives, top_uses, uid_number, option_map, at_number, is_binding}
use Rattle.arj_law_disk_view.proofs.Terms
use Terms.{Names, Office, State, has, packed, never_some, or_cases, or_left, or_right, some_is, Kinds, SeesRootOf, HasLeast, SeesGrants}
use Terms.{StaysRetained, HaveLoads, HasCallList, HasList, HasRetained, IsShort, IsTopOf, KeepsCalls, SeesLists, one_of}
use Rattle.arj_law_disk_view.proofs.names.GrantSteps.{Taken, came_from, taken_old}
use Rattle.arj_law_disk_view.proofs.running.HeardEnds.{both_true}
use Rattle.arj_law_runs.proofs.calls.CommitPlans.{any_in}

-- ---- what stays of a root

-- what is kept is what was, or of the same binding with the same list
abbrev pub KeptAlike : Option Known → Option Known → Type 0
KeptAlike old new =
    (old ≡ new) ⊎ ((k : Known) × (l : Known) × (old ≡ Some k) × (new ≡ Some l) × (l.binding ≡ k.binding) × (l.stores ≡ k.stores))

-- grants are the same, or one of another object was noted
abbrev pub GrantsAlike : ℕ → Kinds → Uid → Root → Root → Type 0
GrantsAlike x tops root r q =
    (q.grants ≡ r.grants) ⊎ ((g : Grant) × (g.x ≡ x → ⊥) × IsTopOf tops root g.top × (q.grants ≡ granted_with g r.grants))

-- an include of this path and object
pub record HasJoinOf (q : Root) (j : Joined) : Type 0 where
  pub join : Joined
  pub there : In join q.joined
  pub path : join.path ≡ j.path
  pub of : join.x ≡ j.x

-- Of the object a root has what another one has: grants, the same kept binding, and answered calls; and its includes.
pub record IsAlike (x : ℕ) (tops : Kinds) (root : Uid) (r q : Root) : Type 0 where
  pub grants : GrantsAlike x tops root r q
  pub kept : KeptAlike (kept_of x r) (kept_of x q)
  pub said_back : (z : Said) → Contains q.said z → z.x ≡ x → Contains r.said z
  pub said_on : (z : Said) → In z r.said → In z q.said
  pub joined_on : (j : Joined) → In j r.joined → HasJoinOf q j
  pub states : q.states ≡ r.states

-- a list stays for a binding that is the same
pub list_alike : (N : Names) (root top : ℕ) (k l : Known) → l.binding ≡ k.binding → l.stores ≡ k.stores → HasCallList N root top k →
    HasCallList N root top l
list_alike N root top k l binding stores h = ⊎_elim
    (λ (o : HasList N top k). inl (record {
      kept = o.kept;
      there = o.there;
      since = ap (λ (b : Binding). b.inc) binding ∙ o.since;
      within = λ s on. subst (λ ss. has s ss ≡ true) (sym stores) (o.within s on);
    }))
    (λ (o : HasRetained N root k).
    inr (record { had = ap (λ (b : Binding). N.had root b.inc) binding ∙ o.had; kept = o.kept; there = o.there })) h

pub calls_alike : (tops : Kinds) (root : Uid) (old new : Option Known) (N : Names) → KeptAlike old new → KeepsCalls tops root old new N N
calls_alike tops root old new N (inl same) w k of is h = (k, sym same ∙ is, h)
calls_alike tops root old new N (inr (k, l, was, now, binding, stores)) w y of is h = (
  l,
  now,
  list_alike N (uid_number root) (uid_number w) k l binding stores
      (subst (HasCallList N (uid_number root) (uid_number w)) (some_is is was) h),
)

-- ---- who is retained

pub retained_on : (x : ℕ) (c : Coord) (r q : Root) → ((z : Said) → In z r.said → In z q.said) →
    ((j : Joined) → In j r.joined → HasJoinOf q j) → StaysRetained x c r c q
retained_on x c r q said joined w on =
    let z = and_parts (is_kept_top w c) (top_uses w x r c) on in
    both_true (is_kept_top w c) (top_uses w x q c) z.0 (⊎_elim calls includes (or_cases (list_any (λ (s : Said). (s.x == x)
    && survives w s.path c) r.said) (list_any (λ (j : Joined). (j.x == x) && survives w j.path c) r.joined) z.1))
  where
    Says : Bool
    Says = list_any (λ (s : Said). (s.x == x) && survives w s.path c) q.said

    Joins : Bool
    Joins = list_any (λ (j : Joined). (j.x == x) && survives w j.path c) q.joined

    calls : list_any (λ (s : Said). (s.x == x) && survives w s.path c) r.said ≡ true → (Says || Joins) ≡ true
    calls h = let f = one_of (λ (s : Said). (s.x == x) && survives w s.path c) r.said h in
        or_left Says Joins (any_in (λ (s : Said). (s.x == x) && survives w s.path c) f.0 q.said (said f.0 f.1) f.2)

    includes : list_any (λ (j : Joined). (j.x == x) && survives w j.path c) r.joined ≡ true → (Says || Joins) ≡ true
    includes h =
        let f = one_of (λ (j : Joined). (j.x == x) && survives w j.path c) r.joined h in
        let i = joined f.0 f.1 in
        or_right Says Joins (any_in (λ (j : Joined). (j.x == x) && survives w j.path c) i.join q.joined i.there
        ((λ n. (i.of n == x) && survives w (i.path n) c) ∙ f.2))

-- ---- the root

module _ (x : ℕ) (tops : Kinds) (root : Uid) (c : Coord) (r q : Root) (alike : IsAlike x tops root r q) where
  grant_back : (h : Grant) → Contains q.grants h → h.x ≡ x → Contains r.grants h
  grant_back h i of = by alike.grants
    where
      by : GrantsAlike x tops root r q → Contains r.grants h
      by (inl same) = subst (λ gs. Contains gs h) same i
      by (inr (g, other, top, is)) =
          came_from (λ m. m.x ≡ x → Contains r.grants m) g r.grants (λ m j on. in_to m r.grants j) (λ on. absurd (other on))
          (λ m j at on on2. absurd (other (sym on ∙ on2))) h (in_from h (granted_with g r.grants) (subst (λ gs. Contains gs h) is i)) of

  family_back : ((h : Grant) → Contains r.grants h → IsTopOf tops root h.top) → (h : Grant) → Contains q.grants h → IsTopOf tops root h.top
  family_back each h i = by alike.grants
    where
      by : GrantsAlike x tops root r q → IsTopOf tops root h.top
      by (inl same) = each h (subst (λ gs. Contains gs h) same i)
      by (inr (g, other, top, is)) = came_from (λ m. IsTopOf tops root m.top) g r.grants (λ m j. each m (in_to m r.grants j)) top
          (λ m j at on. each m (in_to m r.grants j)) h (in_from h (granted_with g r.grants) (subst (λ gs. Contains gs h) is i))

  least_on : (t : Uid) (i : ℕ) → HasLeast x t i r.grants → HasLeast x t i q.grants
  least_on t i l = by alike.grants
    where
      low : (a b n : ℕ) → a ≤ b → b ≤ n → a ≤ n
      low a b n p o = omega (arith, p, o)

      by : GrantsAlike x tops root r q → HasLeast x t i q.grants
      by (inl same) = subst (HasLeast x t i) (sym same) l
      by (inr (g, other, top, is)) =
          let k : Taken l.grant (granted_with g r.grants) = taken_old g l.grant r.grants (in_from l.grant r.grants l.there) in
          subst (HasLeast x t i) (sym is) (record {
            grant = k.grant;
            there = in_to k.grant (granted_with g r.grants) k.there;
            top_is = k.top_is ∙ l.top_is;
            of = k.of ∙ l.of;
            low = low (let z = k.grant in z.least) (let z = l.grant in z.least) i k.low l.low;
          })

  stays : StaysRetained x c r c q
  stays = retained_on x c r q alike.said_on alike.joined_on

  grants_alike : (S : State) (N : Names) → SeesGrants x root c r S N → SeesGrants x root c q S N
  grants_alike S N g = record {
    own = λ t i mine plain has. least_on t i (g.own t i mine plain has);
    least = λ h i of. g.least h (grant_back h i of) of;
    kept = λ i serial has. let k = g.kept i serial has in (k.0, stays k.0 k.1, least_on k.0 i k.2);
  }

  -- what was kept of a binding that is kept
  record Was (N : Names) (k : Known) : Type 0 where
    old : Known
    kept : kept_of x r ≡ Some old
    binding : k.binding ≡ old.binding
    stores : k.stores ≡ old.stores

  was : (N : Names) (k : Known) → kept_of x q ≡ Some k → Was N k
  was N k is = by alike.kept
    where
      by : KeptAlike (kept_of x r) (kept_of x q) → Was N k
      by (inl same) = record { old = k; kept = same ∙ is; binding = refl; stores = refl }
      by (inr (o, l, before, now, binding, stores)) = let same : l ≡ k = some_is now is in record {
        old = o;
        kept = before;
        binding = ap (λ (z : Known). z.binding) (sym same) ∙ binding;
        stores = ap (λ (z : Known). z.stores) (sym same) ∙ stores;
      }

  none_back : kept_of x q ≡ None → kept_of x r ≡ None
  none_back is = by alike.kept
    where
      by : KeptAlike (kept_of x r) (kept_of x q) → kept_of x r ≡ None
      by (inl same) = same ∙ is
      by (inr (o, l, before, now, binding, stores)) = absurd (never_some now is)

  lists_alike : (N : Names) → SeesLists x tops root c r N → SeesLists x tops root c q N
  lists_alike N l = record {
    agree = λ k h z is of there since s on. let w = was N k is in subst (λ ss. has s ss ≡ true) (sym w.stores)
        (l.agree w.old h z w.kept of there (since ∙ ap (λ (b : Binding). b.inc) w.binding) s on);
    family = family_back l.family;
    granted = λ g b i of named. l.granted g b (grant_back g i of) of named;
    named = λ k g is i of on. let w = was N k is in
        let o = l.named w.old g w.kept (grant_back g i of) of (ap (λ b. is_binding b g.named) (sym w.binding) ∙ on) in
        record {
          kept = o.kept;
          there = o.there;
          since = ap (λ (b : Binding). b.inc) w.binding ∙ o.since;
          within = λ s on. subst (λ ss. has s ss ≡ true) (sym w.stores) (o.within s on);
        };
    short = λ k is. let w = was N k is in subst IsShort (sym w.binding) (l.short w.old w.kept);
    called = λ k z t is i of alive on top. let w = was N k is in list_alike N (uid_number root) (uid_number t) w.old k w.binding w.stores
        (l.called w.old z t w.kept (alike.said_back z i of) of alive on top);
    retained = λ k z is i of on. let w = was N k is in let o = l.retained w.old z w.kept (alike.said_back z i of) of on in
        record { had = ap (λ (b : Binding). N.had (uid_number root) b.inc) w.binding ∙ o.had; kept = o.kept; there = o.there };
    nothing = λ is z i of. l.nothing (none_back is) z (alike.said_back z i of) of;
  }

  -- with what its includes loaded
  pub root_alike : (A : Office) → HaveLoads x tops root q A.names → SeesRootOf x tops root c r A → SeesRootOf x tops root c q A
  root_alike A loads s = record {
    grants = grants_alike A.world.disk A.names s.grants;
    lists = lists_alike A.names s.lists;
    loads = loads;
    state = ap (λ ss. option_map packed (at_number x ss)) alike.states ∙ s.state;
  }
