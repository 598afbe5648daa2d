-- What a message does to a node's coordinator: nothing, or it takes an answer or an acknowledgement.
use Rattle.arj_law_parts.proofs.Words
use Words.{◌≡◌, ◌∙◌, ℕ, Bool, true, false, List, Option, Some, None, refl, sym, ap, subst, is_some, Asked, Message, Uid, asks, Reply}
use Words.{answers, heard, Disk, Effect, acked, answer_query, Parts, Took, handle, AreAll}
use Words.message
use Rattle.arj_law_serial.proofs.Terms
use Terms.{is_for_parts, coordinated, handled_answer, is_acked, is_answer, is_query, response_is, took_heard, AreSentTo, Leaves}
use Terms.{message_left, leaves}

pub data CoordCase (d : Disk) (t : Parts) (from : ℕ) (m : Message) (v : Parts) (outs : List Effect) : Type 0 where
  OfParts : is_for_parts m ≡ true → v.coord ≡ t.coord → AreAll leaves outs → AreSentTo from (asks m) outs → CoordCase d t from m v outs
  Asks : (u : Uid) → m ≡ message.Query (record { act = u }) → v.coord ≡ t.coord → answer_query from u d.intents t.coord ≡ outs →
      CoordCase d t from m v outs
  Heard : (a : Asked) (r : Reply) → answers m ≡ Some (a, r) → (let q = heard from a r d.intents t.coord in q.part) ≡ v.coord →
      (let q = heard from a r d.intents t.coord in q.outs) ≡ outs → CoordCase d t from m v outs
  Acks : (u : Uid) → m ≡ message.Acked (record { act = u }) → (let q = acked from u d.intents t.coord in q.part) ≡ v.coord →
      (let q = acked from u d.intents t.coord in q.outs) ≡ outs → CoordCase d t from m v outs

pub coord_case : (k : ℕ) (d : Disk) (t v : Parts) (from : ℕ) (m : Message) (outs : List Effect) → handle k d t from m ≡ Took v outs →
    CoordCase d t from m v outs
coord_case k d t v from m outs is = by (is_for_parts m) refl
  where
    heard_it : (o : Option (Asked × Reply)) → answers m ≡ o → is_some o ≡ true → CoordCase d t from m v outs
    heard_it None of some = absurd (cc some)
    heard_it (Some a) of some =
        let taken = subst (λ (z : Message). handle k d t from z ≡ Took v outs) (response_is m a of) is in
        let q = took_heard t v (heard from a.0 a.1 d.intents t.coord) outs (sym (handled_answer k d t from a.0 a.1) ∙ taken) in
        Heard a.0 a.1 of (ap (λ (z : Parts). z.coord) q.0) q.1

    other : is_for_parts m ≡ false → (o : Option (Uid × Bool)) → coordinated m ≡ o → CoordCase d t from m v outs
    other apart None none = heard_it (answers m) refl (is_answer m none apart)
    other apart (Some (u, true)) of =
        let taken = subst (λ (z : Message). handle k d t from z ≡ Took v outs) (is_acked m u of) is in
        let q = took_heard t v (acked from u d.intents t.coord) outs taken in
        Acks u (is_acked m u of) (ap (λ (z : Parts). z.coord) q.0) q.1
    other apart (Some (u, false)) of =
        let taken : Took t (answer_query from u d.intents t.coord) ≡ Took v outs = subst
        (λ (z : Message). handle k d t from z ≡ Took v outs) (is_query m u of) is in
        let same : t ≡ v = cc taken in
        Asks u (is_query m u of) (ap (λ (z : Parts). z.coord) (sym same)) (cc taken)

    by : (b : Bool) → is_for_parts m ≡ b → CoordCase d t from m v outs
    by true mine = let l = subst (Leaves t from (asks m)) is (message_left k d t from m mine) in let w = l.0 in
        OfParts mine w.coord w.plain l.1
    by false apart = other apart (coordinated m) refl
