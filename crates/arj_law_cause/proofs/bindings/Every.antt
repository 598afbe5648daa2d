-- What each object's relation keeps, all objects' keep; and what is known beside what rows are shown by.
use Rattle.arj_law_parts.proofs.Words
use Words.{◌++◌, ◌+◌, ℕ, List, [], ◌∷◌, Body, Header, Disk, Do, Effect, Say, Send, worked, Parts, again_all, begin_action, parent_of}
use Words.{parts_in, restart_outs}
use Words.{tick_outs, with_coord, acts as does, is_serial, numbered, Seen}
use Words.body
use Rattle.arj_law_cause.proofs.kinds.Running.{Knows}
use Rattle.arj_law_cause.proofs.rows.Running.{steps_both}
use Rattle.arj_law_parts.specs.moves.Keeps.{Keeps}
use Rattle.arj_law_parts.specs.moves.Moments.{Moment}
use Rattle.arj_law_parts.specs.moves.Seen.{given, posted, said}
use Rattle.arj_law_parts.specs.moves.Walks.{Up, Walks}
use Rattle.arj_law_parts.specs.moves.With.{KeepsAll}

module _ (P : ℕ → Seen → Type 0) where
  abbrev pub Each : Seen → Type 0
  Each M = (x : ℕ) → P x M

  walks_each : (e k : ℕ) (outs : List Effect) (v : Parts) (d : Disk) (M : Seen) → ((x : ℕ) → Walks (P x) e k outs (Up (P x) k v) d M) →
      Walks Each e k outs (Up Each k v) d M
  walks_each e k [] v d M h = h
  walks_each e k (Do w ∷ es) v d M h = (λ how x. (h x).0 how, walks_each e k es v (worked w d) M (λ x. (h x).1))
  walks_each e k (Say b ∷ es) v d M h = walks_each e k es v d (said e (b ∷ []) M) h
  walks_each e k (Send to m ∷ es) v d M h = λ more quiet.
      walks_each e k es v d (said e more (posted (record { from = k; to = to; message = m }) M)) (λ x. h x more quiet)

  pub each_keep : (hd : Header) → ((x : ℕ) → Keeps hd (P x)) → Keeps hd Each
  each_keep hd one = record {
    quiet = λ e bs M quiet h x. (let k = one x in k.quiet e bs M quiet (h x));
    stop = λ e k d live M h x. (let q = one x in q.stop e k d live M (h x));
    message = λ e k d t v from m outs M h there meant is. walks_each e k outs v d M
        (λ x. let q = one x in q.message e k d t v from m outs M (h x) there meant is);
    act = λ e k d t i M is none h. let did = does i d.intents t.coord in walks_each e k did.outs (with_coord t did.part) d M
        (λ x. let q = one x in q.act e k d t i M is none (h x));
    begin = λ e k d t l how parent M new may none h.
        let did = begin_action l how parent (parent_of parent t.coord) t.coord in
        walks_each e k did.outs (with_coord t did.part) d (given l (record { node = k; serial = is_serial how }) M)
        (λ x. let q = one x in q.begin e k d t l how parent M new may none (h x));
    tick = λ e k d t M h. walks_each e k (tick_outs (record { number = k; disk = d; live = Words.Some t }) t)
        (with_coord t (let r = again_all t.coord.doings t.coord in r.part)) d M (λ x. let q = one x in q.tick e k d t M (h x));
    restart = λ e k d M h. walks_each e k (restart_outs hd k (d.inc + 1) d) (parts_in k (d.inc + 1) d) d M
        (λ x. let q = one x in q.restart e k d M (h x));
    first = λ st formed x. (let q = one x in q.first st formed);
  }

-- more is known, and kept
abbrev pub knows_with : (hd : Header) (G E : Moment → Type 0) → KeepsAll hd E → Knows hd G → Knows hd (λ M. G M × E M)
knows_with hd G E keeps k = record {
  Between = k.Between;
  In = λ w M. k.In w M × E M;
  first = k.first;
  next = k.next;
  arms = k.arms;
  opens = λ w e g sent b c. (k.opens w e g sent b c.0, c.1);
  steps = λ w b. steps_both hd (k.In w) E (k.steps w b) keeps.steps;
  back = λ w M c. (k.back w M c.0, c.1);
}

pub keeps_both : (hd : Header) (P Q : Moment → Type 0) → KeepsAll hd P → KeepsAll hd Q → KeepsAll hd (λ M. P M × Q M)
keeps_both hd P Q a b = record {
  opens = λ e M first number h. (a.opens e M first number h.0, b.opens e M first number h.1);
  closes = λ bodies M number lines h. (a.closes bodies M number lines h.0, b.closes bodies M number lines h.1);
  steps = steps_both hd P Q a.steps b.steps;
  first = λ st formed. (a.first st formed, b.first st formed);
}
