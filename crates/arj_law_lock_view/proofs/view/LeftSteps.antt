-- What stays where ends are applied at a server.
use Rattle.arj_law_parts.proofs.Words
use Words.{◌≡◌, ◌≢◌, ◌⊎◌, ◌∙◌, ℕ, List, [], ◌∷◌, Bool, true, false, cond, filter, map, Option, Some, None, refl, sym, ap, subst, inl, inr}
use Words.{⊎_elim, arith, InvokedReply, Uid, Copy, binding_number}
use Words.invoked
use Rattle.arj_law_lock_view.proofs.Terms
use Terms.{Act, In, Root, Sub, on, root, same, top, Guard, handed, Call, Entry, Server, State, DropRows, Survives, at_here, on_above, on_up}
use Terms.{same_is, Acts, Codes, CountsForNone, IsDead, KeepsServer, MayUndo, OnlyEnds, OnlyServer, SeesObject, ShowsInvoked, Wanted}
use Terms.{wanted_by}
use Terms.machine
use Rattle.arj_law_lock.specs.machine.Machine.{with_server}
use Rattle.arj_law_lock_view.proofs.view.CopySteps.{server_else}
use Rattle.arj_law_lock_view.specs.view.Copies.{AreLeft}

-- ---- what was sent

-- what an answer shows it shows for ever
pub shows_later : (act : Acts) (code : Codes) (u : Uid) (number : ℕ) (w : Wanted) (S T : State) → ((m : machine.Message) → In m S.net →
    In m T.net) → (a : InvokedReply) → ShowsInvoked act code u number w S a → ShowsInvoked act code u number w T a
shows_later act code u number w S T sent (invoked.Answered a) h = (
  h.0,
  h.1,
  (let p = h.2 in
      record { answer = p.answer; sent = sent (machine.Invoked p.answer) p.sent; of = p.of; by = p.by; sees = p.sees; gives = p.gives }),
)
shows_later act code u number w S T sent (invoked.Conflict k m) h = sent (machine.Refused (wanted_by act u number w)) h
shows_later act code u number w S T sent (invoked.Changed d) h = sent (machine.Changed (binding_number w.binding)) h

pub object_sent : (act : Acts) (code : Codes) (x i : ℕ) (o : Option Copy) (m : machine.Server) (S T : State) →
    ((z : machine.Message) → In z S.net → In z T.net) → SeesObject act code x i o m S → SeesObject act code x i o m T
object_sent act code x i None m S T sent h = h
object_sent act code x i (Some c) m S T sent h = (h.0, sent (machine.Activated (binding_number c.binding) i) h.1)

-- ---- writes that are left

pub left_itself : (S : State) (es : List Entry) → AreLeft S es es
left_itself S es e i = (e, i, refl, (λ a o. o), λ a o four. o)

left_both : (S T : State) → ((a : Act) → (S.action a).stage ≡ 4 → (T.action a).stage ≡ 4) → (es fs gs : List Entry) → AreLeft S es fs →
    AreLeft T fs gs → AreLeft S es gs
left_both S T same es fs gs p q e i = let f = q e i in let g = p f.0 f.1 in
    (g.0, g.1, f.2 ∙ g.2, (λ a o. g.3 a (f.3 a o)), λ a o four. f.4 a (g.4 a o four) (same a four))

pub left_kept : (S : State) (p : Entry → Bool) (es : List Entry) → AreLeft S es (filter p es)
left_kept S p es e i = (e, in_kept es i, refl, (λ a o. o), λ a o four. o)
  where
    in_kept : (ys : List Entry) → In e (filter p ys) → In e ys
    in_kept [] j = absurd j
    in_kept (y ∷ ys) j = by (p y) j (in_kept ys)
      where
        by : (b : Bool) → In e (cond b (y ∷ filter p ys) (filter p ys)) → (In e (filter p ys) → In e ys) → In e (y ∷ ys)
        by true (inl is) rest = inl is
        by true (inr k) rest = inr (rest k)
        by false k rest = inr (rest k)

pub left_handed : (S : State) (b : Act) (j : ℕ) → (S.action (Sub b j)).stage ≡ 3 → (es : List Entry) → AreLeft S es (map (handed b j) es)
left_handed S b j three [] e i = absurd i
left_handed S b j three (f ∷ fs) e (inr i) = let g = left_handed S b j three fs e i in (g.0, inr g.1, g.2, g.3, g.4)
left_handed S b j three (f ∷ fs) e (inl is) = (
  f,
  inl refl,
  ap (λ (y : Entry). y.by) is,
  (λ a o. up a (same f.holder (Sub b j)) refl (ap (λ (y : Entry). on y.holder a) (sym is) ∙ o)),
  λ a o four. ap (λ (y : Entry). on y.holder a) is ∙ down a four (same f.holder (Sub b j)) refl o,
)
  where
    up : (a : Act) (t : Bool) → same f.holder (Sub b j) ≡ t → on (cond t b f.holder) a ≡ true → on f.holder a ≡ true
    up a true own o = ap (λ (h : Act). on h a) (same_is f.holder (Sub b j) own) ∙ on_above b j a o
    up a false own o = o

    down : (a : Act) → (S.action a).stage ≡ 4 → (t : Bool) → same f.holder (Sub b j) ≡ t → on f.holder a ≡ true →
        on (cond t b f.holder) a ≡ true
    down a four true own o = ⊎_elim (λ it. absurd (let bad : 3 ≡ 4 = sym three ∙ ap (λ (z : Act). (S.action z).stage) (sym it) ∙ four in
        omega (arith, bad))) (λ above. above) (on_up b j a (ap (λ (h : Act). on h a) (sym (same_is f.holder (Sub b j) own)) ∙ o))
    down a four false own o = o

-- ---- only ends

-- a server that keeps the rest, with no new write
pub ends_only : (n : ℕ) (S : State) (w : Server) → KeepsServer (let v = S.server n in v.request) (S.server n) w →
    AreLeft S (let v = S.server n in v.log) w.log → OnlyEnds n S (with_server S n w)
ends_only n S w keeps left = record {
  rest = refl;
  others = λ k other. server_else S n k w other;
  keeps = subst (KeepsServer (let v = S.server n in v.request) (S.server n)) (sym (at_here S.server n w)) keeps;
  left = subst (λ (z : Server). AreLeft S (let v = S.server n in v.log) z.log) (sym (at_here S.server n w)) left;
}

pub ends_none : (n : ℕ) (S : State) → OnlyEnds n S S
ends_none n S = record {
  rest = refl;
  others = λ k other. refl;
  keeps = record { incarnation = refl; voted = refl; request = refl };
  left = left_itself S (let v = S.server n in v.log);
}

pub ends_both : {n : ℕ} {S T V : State} → OnlyEnds n S T → OnlyEnds n T V → OnlyEnds n S V
ends_both {n} {S} {T} {V} a b = record {
  rest = b.rest ∙ ap (λ (s : State). record s { server = V.server }) a.rest;
  others = λ k other. b.others k other ∙ a.others k other;
  keeps = (let p = a.keeps in let q = b.keeps in
      record { incarnation = q.incarnation ∙ p.incarnation; voted = q.voted ∙ p.voted; request = q.request ∙ p.request });
  left = left_both S T (λ z four. ap (λ (s : State). (s.action z).stage) a.rest ∙ four) (let v = S.server n in v.log) (let v = T.server n in
      v.log) (let v = V.server n in v.log) a.left b.left;
}

-- no message is lost, nor sent
pub net_stays : {n : ℕ} {S T : State} → OnlyEnds n S T → T.net ≡ S.net
net_stays a = ap (λ (s : State). s.net) a.rest

pub ends_sent : {n : ℕ} {S T : State} → OnlyEnds n S T → (m : machine.Message) → In m S.net → In m T.net
ends_sent a m i = subst (λ (net : List machine.Message). In m net) (sym (net_stays a)) i

pub only_server : {n : ℕ} {S T : State} → OnlyEnds n S T → OnlyServer n S T
only_server {n} {S} {T} a = record {
  rest = a.rest ∙ (λ i. record S { server = T.server; net = sym (net_stays a) i });
  others = a.others;
  sent = ends_sent a;
}

-- ---- what the machine may drop it may drop later too

drop_later : (n : ℕ) (a : Act) (S T : State) → OnlyEnds n S T → Guard (DropRows n a) S → Guard (DropRows n a) T
drop_later n a S T only may = subst (Guard (DropRows n a)) (sym only.rest) (by may)
  where
    by : Guard (DropRows n a) S → Guard (DropRows n a) (record S { server = T.server })
    by (inl aborted) = inl aborted
    by (inr (inl over)) = inr (inl (
      over.0,
      λ e i above committed voted c called write survives. (let f = only.left e i in
          (λ is. over.1 f.0 f.1 (f.3 a above) (ap (λ (b : Act). (let z = S.action (top b) in z.stage)) (sym f.2) ∙ committed)
          (ap (λ (b : Act). (let z = S.server n in z.voted (top b))) (sym f.2) ∙ sym (let k = only.keeps in
          ap (λ (g : Act → Bool). g (top e.by)) k.voted) ∙ voted) c called write survives (is ∙ ap top f.2))),
    ))
    by (inr (inr apart)) = inr (inr (apart.0, apart.1, (let k = only.keeps in ap (λ (f : Act → Bool). f a) k.voted ∙ apart.2)))

pub undo_later : (n : ℕ) (a : Act) (S T : State) → OnlyEnds n S T → MayUndo n a S → MayUndo n a T
undo_later n a S T only (inl may) = inl (drop_later n a S T only may)
undo_later n a S T only (inr over) = inr (
  ap (λ (s : State). (let z = s.action (Root (root a)) in z.stage)) only.rest ∙ over.0,
  λ e i above. (let f = only.left e i in by e f.0 f.2 f.4 (over.1 f.0 f.1 (f.3 a above))),
)
  where
    by : (e f : Entry) → e.by ≡ f.by → ((b : Act) → on f.holder b ≡ true → (S.action b).stage ≡ 4 → on e.holder b ≡ true) →
        IsDead S f.holder a ⊎ CountsForNone n S f → IsDead T e.holder a ⊎ CountsForNone n T e
    by e f same still (inl d) = inl (d.0, still d.0 d.1 d.3, d.2, ap (λ (s : State). (let z = s.action d.0 in z.stage)) only.rest ∙ d.3)
    by e f same still (inr none) = inr (λ committed voted c called write survives.
        (subst (λ (s : State). (s.action (top e.by)).stage ≡ 3 → (d : Call) → In d s.calls → d.write ≡ true → Survives s d.act →
        top d.act ≢ top e.by) (sym only.rest)
        (λ three d calls writes lives is. none (ap (λ (b : Act). (let z = S.action (top b) in z.stage)) (sym same) ∙ three)
        (ap (λ (b : Act). (let z = S.server n in z.voted (top b))) (sym same)
        ∙ sym (let k = only.keeps in ap (λ (g : Act → Bool). g (top e.by)) k.voted) ∙ voted) d calls writes lives (is ∙ ap top same)))
        committed c called write survives)
