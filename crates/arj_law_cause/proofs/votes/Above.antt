-- A changed state that a commit has is of a version above zero.
use Rattle.arj_law_parts.proofs.Words
use Words.{◌≡◌, ◌≤◌, ◌∙◌, ◌==◌, ◌&&◌, ℕ, List, Bool, true, false, Option, Some, None, arith, refl, sym, ap, and_parts, eqb-true}
use Words.{option_map, find}
use Words.{in_find, in_find_none, in_from, in_to, eq-eqb, ObjectState, Over, Uid, Used, changed_of, has, over_of, next_version, Plan, In}
use Rattle.arj_law_serial.proofs.Terms.{State, Fixed, side_at}
use Rattle.arj_law_lock_view.specs.view.{Serving.IsVotedSo, Voted.HasVotes, Voted.IsCalledIn, Voted.Side}
use Rattle.arj_protocol.specs.Copy.{state_over}

module _ (f : Fixed) (x : ℕ) (S : State) (u : Uid) (p : Plan) (left : List ℕ) (votes : HasVotes (side_at f.act f.code x u) p left S)
    (st : ObjectState) (changed : changed_of x p ≡ Some st) where
  abbrev w : Side
  w = side_at f.act f.code x u

  abbrev test : Used → Bool
  test q = (q.x == x) && q.called

  never : changed_of x p ≡ None → {A : Type 0} → A
  never none = let no_way : ◌≡◌ {A = Option ObjectState} None (Some st) = sym none ∙ changed in absurd (cc no_way)

  -- its server has made it over another
  of_server : (q : Used) → IsCalledIn w p q → has left q.server ≡ false → 1 ≤ st.version
  of_server q called off = by (over_of u (let k = given.copy in k.stack)) refl
    where
      given : IsVotedSo f.act f.code x u (record { binding = q.binding; states = p.changed }) S
      given = votes.given q called off

      state_is : (o : Option Over) → over_of u (let k = given.copy in k.stack) ≡ o →
          option_map (state_over u x given.copy) o ≡ changed_of x p
      state_is o is = ap (λ (k : Option Over). option_map (state_over u x given.copy) k) (sym is) ∙ sym given.state

      version : Option ObjectState → ℕ
      version None = 1
      version (Some s) = s.version

      above : (v : ℕ) → 1 ≤ next_version v
      above v = grind arith

      by : (o : Option Over) → over_of u (let k = given.copy in k.stack) ≡ o → 1 ≤ st.version
      by None none = never (sym (state_is None none))
      by (Some o) some = low (next_version (let k = given.copy in let b = k.base in b.version)) st.version
          (above (let k = given.copy in let b = k.base in b.version)) (ap version (state_is (Some o) some ∙ changed))
        where
          low : (a b : ℕ) → 1 ≤ a → a ≡ b → 1 ≤ b
          low a b one same = omega (arith, one, same)

  pub changed_above : 1 ≤ st.version
  changed_above = by (find test p.used) refl
    where
      by : (o : Option Used) → find test p.used ≡ o → 1 ≤ st.version
      by None none = never (votes.uncalled (λ q called. let no_way : false ≡ true = sym (in_find_none test q p.used none
          (in_from q p.used called.there)) ∙ (λ i. (ap (λ y. y == x) called.about ∙ eq-eqb x x refl) i && called.called i) in cc no_way))
      by (Some q) some = at_left (has left q.server) refl
        where
          found : In q p.used × (test q ≡ true)
          found = in_find test q p.used some

          called : IsCalledIn w p q
          called = let t = and_parts (q.x == x) q.called found.1 in
              record { there = in_to q p.used found.0; about = eqb-true q.x x t.0; called = t.1 }

          at_left : (b : Bool) → has left q.server ≡ b → 1 ≤ st.version
          at_left true on = never (votes.awaited q called on)
          at_left false off = of_server q called off
