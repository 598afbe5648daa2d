-- What a top wrote whose Confirm naming may take lies over the last committed value, whose version is known.
use Rattle.arj_law_parts.proofs.Words
use Words.{made_over, ◌≡◌, ℕ, Some, sym, ap, subst, ObjectState, Uid, Over, over_of}
use Words.{next_version}
use Rattle.arj_law_serial.proofs.Terms
use Terms.{World, top, Guard, Alive, Call, Entry, State, Vote, ConfirmTop, IsLast, MayCount, Fixed, IsKnownAs, IsVotedOver}
use Rattle.arj_law_lock.proofs.logs.Takes.{confirms_are_over_the_last}
use Rattle.arj_law_lock.specs.machine.Actions.{In}
use Rattle.arj_law_serial.proofs.joint.Writing.{over_there}

module _ (f : Fixed) (x : ℕ) (u : Uid) (S : State) (W : World) (st : ObjectState) (z : IsVotedOver f x u S W st)
    (one : (let a = S.action (f.act u) in a.stage) ≡ 1) (q : ℕ) (takes : Guard (ConfirmTop (f.act u) q) S) (c : Call) (there : In c S.calls)
    (its : top c.act ≡ f.act u) (alive : Alive S c.act) where
  voted : (o : Over) × (over_of u (let k = z.copy in k.stack) ≡ Some o)
      × (next_version (let k = z.copy in let b = k.base in b.version) ≡ st.version)
  voted = let m = made_over u x z.copy st z.state in (m.0, m.1, ap (λ (y : ObjectState). y.version) m.2)

  entry : (e : Entry) × In e (let b = z.before in let w = b.server z.node in w.log) × (e.holder ≡ f.act u)
  entry = over_there f.act f.code u (let k = z.copy in k.stack) (let b = z.before in let w = b.server z.node in w.log) (let y = z.sees in
      y.overs) voted.0 voted.1

  law : IsLast S (let b = z.before in let w = b.server z.node in w.base) S.calls
      × MayCount S (let b = z.before in let w = b.server z.node in w.active)
  law = confirms_are_over_the_last f.first z.before S z.node (f.act u) z.inc q c entry.0 z.reached z.called entry.1 entry.2 z.run one
      (subst (λ (b : ℕ). In (Vote (f.act u) b z.inc) S.net) (sym (let y = z.sees in y.active)) z.sent) takes there its alive

  -- the state under what was voted is the last committed one, and known
  pub over_the_last : IsLast S (f.code (let k = z.copy in let b = k.base in b.value) (f.act (let k = z.copy in let b = k.base in b.writer)))
      S.calls × IsKnownAs W.disk (let k = z.copy in let b = k.base in b.version) (let k = z.copy in let b = k.base in b.writer)
      × (next_version (let k = z.copy in let b = k.base in b.version) ≡ st.version)
  over_the_last = (
    subst (λ n. IsLast S n S.calls) (let y = z.sees in y.base) law.0,
    (let y = z.based in y.1) (subst (MayCount S) (let y = z.sees in y.active) law.1),
    voted.2,
  )
