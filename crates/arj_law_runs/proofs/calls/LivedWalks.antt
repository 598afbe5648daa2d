-- What is known of servers, walked through a node's effects.
use Rattle.arj_law_parts.proofs.Words
use Words.{◌≡◌, ◌<◌, ◌==◌, ◌+◌, ◌*◌, ℕ, List, [], ◌∷◌, Bool, true, false, cond, Option, Some, None, refl, sym, ◌∙◌, ap, subst, inr, ⊎_elim}
use Words.{eqb-true, ⊤, AllByRecursion, Message, Disk, Do, Effect, Say, Send, stopped, worked, Naming, Parts, binding_number, Node, Post}
use Words.{Seen}
use Words.body
use Rattle.arj_law_runs.proofs.Terms
use Terms.{AreOfInc, Homes, IsPastZero, Reach, stopped_inc, worked_inc, In, Within, at, posted, said, up, Up, Walks, AreApart, AreBelow}
use Terms.{Gifts, HasGiven, HasServers, IsHome, LivesWith, NamesPost, Passes}
use Rattle.arj_law_runs.proofs.{calls.ServerCalls.some_is, kept.Walked.other_number, kept.Walked.same_number}

-- the test passes for what the other nodes reached
abbrev pub PassesOff : ℕ → Reach → Seen → Type 0
PassesOff k reach M = IsPastZero reach × ((j : ℕ) (n : Node) → (j ≡ k → ⊥) → M.nodes j ≡ Some n → Passes reach j n.disk.inc n.live)

-- what is so of messages and of the other nodes
pub record AreLivedOff (k : ℕ) (home : Homes) (reach : Reach) (M : Seen) : Type 0 where
  pub sent : (p : Post) → In p M.sent → NamesPost home reach M.sent p
  pub nodes : (j : ℕ) (n : Node) → (j ≡ k → ⊥) → M.nodes j ≡ Some n → (t : Parts) → n.live ≡ Some t → HasServers home reach t

abbrev pub AreGivenOff : ℕ → Gifts → Seen → Type 0
AreGivenOff k given M = (j : ℕ) (n : Node) → (j ≡ k → ⊥) → M.nodes j ≡ Some n → HasGiven given j n

-- what node k sends after these messages
abbrev pub NamesSent : ℕ → Homes → Reach → List Post → Effect → Type 0
NamesSent k home reach sent (Send to m) = NamesPost home reach sent (record { from = k; to = to; message = m })
NamesSent k home reach sent (Say b) = ⊤
NamesSent k home reach sent (Do w) = ⊤

abbrev pub AllSent : ℕ → Homes → Reach → List Post → List Effect → Type 0
AllSent k home reach sent outs = AllByRecursion (NamesSent k home reach sent) outs

abbrev pub IsNumberedSo : ℕ → ℕ → Gifts → Naming → Type 0
IsNumberedSo k i given o = (k ≡ 1) × (o.inc ≡ i) × AreBelow (binding_number (record { inc = o.inc; count = o.count + 1 })) given

-- the same among more messages
names_within : (home : Homes) (reach : Reach) (few many : List Post) → Within few many → (p : Post) → NamesPost home reach few p →
    NamesPost home reach many p
names_within home reach few many more p its = record {
  asking = its.asking;
  answering = λ a r is. let f = its.answering a r is in record {
    post = f.post;
    head = f.head;
    ask = f.ask;
    posted = more f.post f.posted;
    asked = f.asked;
    same = f.same;
    from = f.from;
    so = f.so;
  };
}

-- a node that is down passes more
pub down_passes : (reach : Reach) (j i : ℕ) (t : Parts) → Passes reach j i None → Passes reach j i (Some t)
down_passes reach j i t p = record { past = p.past; here = λ x n c at low. p.here x n }

module _ (k : ℕ) (given : Gifts) where
  -- all of it, with the node
  pub all_lived : (i : ℕ) (d : Disk) (live : Option Parts) (M : Seen) → d.inc ≡ i → 0 < i → AreApart given → (k ≡ 1 → AreBelow ((i + 1) *
      4294967296) given) → ((t : Parts) (o : Naming) → live ≡ Some t → t.naming ≡ Some o → IsNumberedSo k i given o) → AreGivenOff k given M
      → ((home : Homes) (reach : Reach) → IsHome given home → PassesOff k reach M → Passes reach k i live →
      AreLivedOff k home reach M × ((t : Parts) → live ≡ Some t → HasServers home reach t)) → LivesWith given (at k d live M)
  all_lived i d live M level first apart low numbers others facts = record {
    apart = apart;
    places = λ j n is. place j n (j == k) refl is;
    lived = λ home reach h passes.
        let f = facts home reach h (
          passes.zero,
          λ j n other is. passes.nodes j n
              ((λ z. cond (other_number j k other z) (Some (record { number = k; disk = d; live = live })) (M.nodes j)) ∙ is),
        ) (subst (λ z. Passes reach k z live) level (passes.nodes k (record { number = k; disk = d; live = live })
        (λ z. cond (same_number k z) (Some (record { number = k; disk = d; live = live })) (M.nodes k)))) in
        record { sent = (let a = f.0 in a.sent); nodes = λ j n is t up. node home reach f.0 f.1 j n (j == k) refl is t up };
  }
    where
      place : (j : ℕ) (n : Node) (b : Bool) → (j == k) ≡ b →
          cond b (Some (record { number = k; disk = d; live = live })) (M.nodes j) ≡ Some n → HasGiven given j n
      place j n true at_k is = subst (λ z. HasGiven given z n) (sym (eqb-true j k at_k)) (subst (HasGiven given k) (some_is is) (record {
        first = subst (λ z. 0 < z) (sym level) first;
        low = λ one. subst (λ z. AreBelow ((z + 1) * 4294967296) given) (sym level) (low one);
        naming = λ t o up its. let f = numbers t o up its in (f.0, f.1 ∙ sym level, f.2);
      }))
      place j n false off is = others j n (λ same. let no_way : false ≡ true = sym off ∙ ap (λ z. z == k) same ∙ same_number k in cc) is

      node : (home : Homes) (reach : Reach) → AreLivedOff k home reach M → ((t : Parts) → live ≡ Some t → HasServers home reach t) →
          (j : ℕ) (n : Node) (b : Bool) → (j == k) ≡ b → cond b (Some (record { number = k; disk = d; live = live })) (M.nodes j) ≡ Some n →
          (t : Parts) → n.live ≡ Some t → HasServers home reach t
      node home reach off own j n true at_k is t up = own t (ap (λ (z : Node). z.live) (some_is is) ∙ up)
      node home reach off own j n false apart_k is t up =
          off.nodes j n (λ same. let no_way : false ≡ true = sym apart_k ∙ ap (λ z. z == k) same ∙ same_number k in cc) is t up

  module _ (e i : ℕ) (v : Parts) (first : 0 < i) (apart : AreApart given) (low : k ≡ 1 → AreBelow ((i + 1) * 4294967296) given)
      (numbers : (o : Naming) → v.naming ≡ Some o → IsNumberedSo k i given o) (base : List Post) where
    abbrev pub Facts : List Effect → Seen → Type 0
    Facts es M = (home : Homes) (reach : Reach) → IsHome given home → PassesOff k reach M → Passes reach k i (Some v) →
        AreLivedOff k home reach M × HasServers home reach v × AllSent k home reach base es

    more_sent : (home : Homes) (reach : Reach) (to : ℕ) (m : Message) (M : Seen) → Within base M.sent →
        NamesPost home reach base (record { from = k; to = to; message = m }) → AreLivedOff k home reach M →
        AreLivedOff k home reach (posted (record { from = k; to = to; message = m }) M)
    more_sent home reach to m M more its off = record {
      sent = λ p there. ⊎_elim (λ same. subst (NamesPost home reach (q ∷ M.sent)) same (names_within home reach base (q ∷ M.sent)
          (λ z i. inr (more z i)) q its)) (λ old. names_within home reach M.sent (q ∷ M.sent) (λ z i. inr i) p (off.sent p old)) there;
      nodes = off.nodes;
    }
      where
        q : Post
        q = record { from = k; to = to; message = m }

    pub lived_walk : (es : List Effect) (d : Disk) (M : Seen) → d.inc ≡ i → AreOfInc k i es → AreGivenOff k given M → Within base M.sent →
        Facts es M → Walks (LivesWith given) e k es (Up (LivesWith given) k v) d M
    lived_walk [] d M level incs others more facts =
        all_lived i d (Some v) M level first apart low (λ t o up its. numbers o (ap (λ (z : Parts). z.naming) (some_is up) ∙ its)) others
        (λ home reach h off passes. let f = facts home reach h off passes in (f.0, λ t up. subst (HasServers home reach) (some_is up) f.1))
    lived_walk (Do w ∷ es) d M level incs others more facts = (
      λ how. quietly (all_lived i (stopped how w d) None M (stopped_inc i how w d incs.0 level) first apart low
          (λ t o up its. absurd (none_up up)) others
          (λ home reach h off passes. let f = facts home reach h off (down_passes reach k i v passes) in
          (f.0, λ t up. absurd (none_up up)))),
      lived_walk es (worked w d) M (worked_inc i w d incs.0 level) incs.1 others more
          (λ home reach h off passes. let f = facts home reach h off passes in (f.0, f.1, f.2.1)),
    )
      where
        none_up : {t : Parts} → None ≡ Some t → ⊥
        none_up {t} is = let no_way : ◌≡◌ {A = Option Parts} None (Some t) = is in cc

        quietly : {N : Seen} → LivesWith given N → LivesWith given (said e (body.Halted k ∷ []) N)
        quietly {N} l = record {
          apart = l.apart;
          places = l.places;
          lived = λ home reach h passes. let f = l.lived home reach h (record { zero = passes.zero; nodes = passes.nodes }) in
              record { sent = f.sent; nodes = f.nodes };
        }
    lived_walk (Say b ∷ es) d M level incs others more facts =
        lived_walk es d (said e (b ∷ []) M) level incs.1 others more (λ home reach h off passes. let f = facts home reach h off passes in
        (record { sent = (let a = f.0 in a.sent); nodes = (let a = f.0 in a.nodes) }, f.1, f.2.1))
    lived_walk (Send to m ∷ es) d M level incs others more facts = λ lines quiet.
        lived_walk es d (said e lines (posted (record { from = k; to = to; message = m }) M)) level incs.1 others (λ z i. inr (more z i))
        (λ home reach h off passes. let f = facts home reach h off passes in let a = more_sent home reach to m M more f.2.0 f.0 in
        (record { sent = a.sent; nodes = a.nodes }, f.1, f.2.1))
