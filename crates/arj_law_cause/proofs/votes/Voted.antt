-- Where a commit has a changed state of an object the lock machine has a call of its top that writes, with all actions between them
-- committed, whether or not naming knows of it still.
use Rattle.arj_law_parts.proofs.Words
use Words.{◌≡◌, ◌∙◌, ◌==◌, ◌&&◌, ℕ, Bool, true, false, List, Option, Some, None, refl, sym, ap, subst, and_parts, eqb-true, option_map}
use Words.{find}
use Words.{in_find, in_find_none, in_from, in_to, eq-eqb, ObjectState, Over, Uid, Used, changed_of, has, over_of, binding_number, Plan}
use Rattle.arj_law_serial.proofs.Terms
use Terms.{State, Fixed, side_at, top}
use Terms.state
use Rattle.arj_law_lock.specs.machine.Actions.{In}
use Rattle.arj_law_lock.specs.machine.State.{Merged}
use Rattle.arj_law_lock_view.specs.view.{Serving.IsVotedSo, Voted.HasVotes, Voted.IsCalledIn, Voted.Side}
use Rattle.arj_law_serial.proofs.joint.Writing.{over_there}
use Rattle.arj_protocol.specs.Copy.{state_over}
use Rattle.arj_law_cause.proofs.votes.Applied.{held_called}

-- such a call
abbrev pub HasCalled : Fixed → Uid → State → Type 0
HasCalled f u S = (c : state.Call) × In c S.calls × (c.write ≡ true) × (top c.act ≡ f.act u) × Merged S c.act (f.act u)

module _ (f : Fixed) (x : ℕ) (S : State) (u : Uid) (p : Plan) (left : List ℕ) (votes : HasVotes (side_at f.act f.code x u) p left S)
    (one : (S.action (f.act u)).stage ≡ 1) (st : ObjectState) (changed : changed_of x p ≡ Some st) where
  abbrev w : Side
  w = side_at f.act f.code x u

  abbrev test : Used → Bool
  test q = (q.x == x) && q.called

  never : changed_of x p ≡ None → {A : Type 0} → A
  never none = let no_way : ◌≡◌ {A = Option ObjectState} None (Some st) = sym none ∙ changed in absurd (cc no_way)

  -- its server has voted so
  of_server : (q : Used) → IsCalledIn w p q → has left q.server ≡ false → HasCalled f u S
  of_server q called off = by (over_of u (let k = given.copy in k.stack)) refl
    where
      given : IsVotedSo f.act f.code x u (record { binding = q.binding; states = p.changed }) S
      given = votes.given q called off

      state_is : (o : Option Over) → over_of u (let k = given.copy in k.stack) ≡ o →
          option_map (state_over u x given.copy) o ≡ changed_of x p
      state_is o is = ap (λ (k : Option Over). option_map (state_over u x given.copy) k) (sym is) ∙ sym given.state

      by : (o : Option Over) → over_of u (let k = given.copy in k.stack) ≡ o → HasCalled f u S
      by None none = never (sym (state_is None none))
      by (Some o) some =
          let v = given.vote in
          let r = v.reached in
          let e = over_there f.act f.code u (let k = given.copy in k.stack) (let b = v.before in let k = b.server v.node in k.log)
          (let s = given.sees in s.overs) o some in
          held_called r.0 v.before S v.node (f.act u) (binding_number q.binding) v.inc r.1 v.may v.run one e.0 e.1 e.2

  pub voted_called : HasCalled f u S
  voted_called = by (find test p.used) refl
    where
      by : (o : Option Used) → find test p.used ≡ o → HasCalled f u S
      by None none = never (votes.uncalled (λ q called. let no_way : false ≡ true = sym (in_find_none test q p.used none
          (in_from q p.used called.there)) ∙ (λ i. (ap (λ y. y == x) called.about ∙ eq-eqb x x refl) i && called.called i) in cc no_way))
      by (Some q) some = at_left (has left q.server) refl
        where
          found : Words.In q p.used × (test q ≡ true)
          found = in_find test q p.used some

          called : IsCalledIn w p q
          called = let t = and_parts (q.x == x) q.called found.1 in
              record { there = in_to q p.used found.0; about = eqb-true q.x x t.0; called = t.1 }

          at_left : (b : Bool) → has left q.server ≡ b → HasCalled f u S
          at_left true on = never (votes.awaited q called on)
          at_left false off = of_server q called off
