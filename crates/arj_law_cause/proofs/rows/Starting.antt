-- Each answer that finds something changed was made where that shows, at each moment of each run from a start.
use Rattle.arj_law_parts.proofs.Words
use Words.{◌≡◌, ◌+◌, ◌==◌, ℕ, Bool, true, false, if◌then◌else◌, List, [], ◌∷◌, Some, refl, Header, Start, IsFormed, Parts, Post, Disk, Do}
use Words.{Effect, Say}
use Words.{Send, worked, with_coord, acts as does, again_all, begin_action, parent_of, parts_in, restart_outs, tick_outs, is_serial, see}
use Words.{world_from}
use Rattle.arj_law_lock_view.proofs.moments.Answers.{answers_step, first_made, made_closes, made_opens}
use Rattle.arj_law_lock_view.specs.moments.Made.{AnswersAreMade}
use Rattle.arj_law_parts.proofs.moves.Flat.{post}
use Rattle.arj_law_parts.proofs.moves.Happens.{Wide}
use Rattle.arj_law_parts.specs.moves.Moments.{Moment, asks_now, fits, framed_if, given, no_history, posted, said, sent}
use Rattle.arj_law_parts.specs.moves.With.{KeepsSteps, KeepsWith, UpWith, WalksWith}
use Rattle.arj_law_cause.proofs.bindings.Said.{KnowsBindings, bindings_keep}
use Rattle.arj_law_cause.proofs.kinds.Nodes.{wide_all}
use Rattle.arj_law_cause.proofs.rows.Differing.{Starts, differs_so, tells_differs}
use Rattle.arj_law_cause.proofs.rows.Running.{steps_both}

module _ (st : Start) where
  -- the run began so
  abbrev IsOf : Moment → Type 0
  IsOf M = M.seen.start ≡ st

  sent_of : (p : Post) (M : Moment) → IsOf M → IsOf (sent p M)
  sent_of p M h = by (p.to == p.from) (fits M)
    where
      by : (self fit : Bool) → IsOf (if self then posted p M else framed_if fit p M)
      by true fit = h
      by false true = h
      by false false = h

  walk : (k : ℕ) (v : Parts) (outs : List Effect) (d : Disk) (M : Moment) → IsOf M → WalksWith IsOf k outs (UpWith IsOf k v) d M
  walk k v [] d M h = h
  walk k v (Do w ∷ es) d M h = (λ how. h, walk k v es (worked w d) M h)
  walk k v (Say b ∷ es) d M h = walk k v es d (said (b ∷ []) M) h
  walk k v (Send to m ∷ es) d M h = walk k v es d (sent (post k to m) M) (sent_of (post k to m) M h)

  of_step : (hd : Header) → KeepsSteps hd IsOf
  of_step hd = record {
    quiet = λ bs M plain h. h;
    junk = λ n M fit h. h;
    stop = λ k d live M h. h;
    message = λ k d t v from m outs M h there meant may is. walk k v outs d M h;
    act = λ k d t i M is brings fresh asks free h. let did = does i d.intents t.coord in
        walk k (with_coord t did.part) did.outs d (asks_now i t.coord M) h;
    begin = λ k d t l how parent M brings fresh new gives none h.
        let did = begin_action l how parent (parent_of parent t.coord) t.coord in
        walk k (with_coord t did.part) did.outs d (given l (record { node = k; serial = is_serial how }) M) h;
    tick = λ k d t M h. walk k (with_coord t (let r = again_all t.coord.doings t.coord in r.part))
        (tick_outs (record { number = k; disk = d; live = Some t }) t) d M h;
    restart = λ k d M event first h. walk k (parts_in k (d.inc + 1) d) (restart_outs hd k (d.inc + 1) d) d M h;
  }

  -- what is known of bindings, and of answers that find something changed
  abbrev pub Differing : Moment → Type 0
  Differing M = Starts st M × AnswersAreMade (differs_so st) M

  pub differing_keep : (hd : Header) → KeepsWith hd (IsFormed hd st → Differing (record {
    past = no_history st;
    seen = see []
        (world_from hd st);
  })) Differing
  differing_keep hd =
      let known = wide_all hd KnowsBindings (bindings_keep hd) in
      record {
        opens = λ e M first number h. ((h.0.0, known.opens e M first number h.0.1), made_opens (differs_so st) e M first number h.1);
        closes = λ bodies M number lines h.
            ((h.0.0, known.closes bodies M number lines h.0.1), made_closes (differs_so st) bodies M number lines h.1);
        steps = answers_step hd (differs_so st) (Starts st) (steps_both hd IsOf (Wide KnowsBindings) (of_step hd) known.steps)
            (λ M h. (h.1.0, h.1.1, h.1.2.0.0)) (tells_differs st);
        first = λ formed. ((refl, known.first st formed), first_made hd (differs_so st) st formed);
      }
