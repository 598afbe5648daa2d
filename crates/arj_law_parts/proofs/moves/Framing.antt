-- Each message to another node has the line of its frame, in every run.
use Rattle.arj_law_parts.proofs.Words
use Words.{⊎_elim, ◌≡◌, ◌∙◌, ◌==◌, ◌+◌, ℕ, Bool, true, false, if◌then◌else◌, List, [], ◌∷◌, ◌++◌, refl, sym, ap, subst, inl, inr}
use Words.{append_assoc}
use Words.{eqb-true, Some, Header, Body, Line, Disk, Effect, Say, Send, Do, worked, Parts, numbered, Post, frame_kind, acts, again_all}
use Words.{begin_action, parent_of, parts_in, restart_outs, tick_outs, with_coord, is_serial}
use Words.body
use Words.frame
use Rattle.arj_law_parts.proofs.moves.{Events.run_with, Flat.post}
use Rattle.arj_law_parts.specs.moves.Framed.{AreFramed, HasLine, RunsFrameMessages}
use Rattle.arj_law_parts.specs.moves.Moments.{Moment, asks_now, fits, framed_if, given, posted, said, sent}
use Rattle.arj_law_parts.specs.moves.With.{KeepsAll, KeepsSteps, UpWith, WalksWith}

has_more : (p : Post) (lines more : List Line) → HasLine p lines → HasLine p (lines ++ more)
has_more p lines more h = record {
  before = h.before;
  line = h.line;
  after = h.after ++ more;
  number = h.number;
  are = ap (λ ls. ls ++ more) h.are ∙ append_assoc h.before (h.line ∷ h.after) more;
  says = h.says;
}

said_framed : (bs : List Body) (M : Moment) → AreFramed M → AreFramed (said bs M)
said_framed bs M h p there =
    ⊎_elim (λ same. inl same) (λ l. inr (has_more p M.seen.lines (numbered M.past.number bs) l)) (h p there)

sent_framed : (p : Post) (M : Moment) → AreFramed M → AreFramed (sent p M)
sent_framed p M h = by (p.to == p.from) refl (fits M)
  where
    by : (self : Bool) → (p.to == p.from) ≡ self → (fit : Bool) → AreFramed (if self then posted p M else framed_if fit p M)
    by true same fit q (inl is) =
        inl (subst (λ (z : Post). z.from ≡ z.to) is (sym (eqb-true p.to p.from same)))
    by true same fit q (inr there) = h q there
    by false apart true q (inl is) = inr (subst (λ (z : Post). HasLine z (let N = framed_if true p M in N.seen.lines)) is (record {
      before = M.seen.lines;
      line = record { event = M.past.number; body = body.Sent (M.past.frames + 1) p.from p.to (frame_kind p.message) };
      after = [];
      number = M.past.frames + 1;
      are = refl;
      says = refl;
    }))
    by false apart true q (inr there) = ⊎_elim (λ same. inl same)
        (λ l. inr (has_more q M.seen.lines (numbered M.past.number (body.Sent (M.past.frames + 1) p.from p.to (frame_kind p.message) ∷ []))
        l))
        (h q there)
    by false apart false q there = h q there

-- whatever a node does
walk : (k : ℕ) (v : Parts) (outs : List Effect) (d : Disk) (M : Moment) → AreFramed M →
    WalksWith AreFramed k outs (UpWith AreFramed k v) d M
walk k v [] d M h = h
walk k v (Do w ∷ es) d M h = ((λ how. said_framed (body.Halted k ∷ []) M h), walk k v es (worked w d) M h)
walk k v (Say b ∷ es) d M h = walk k v es d (said (b ∷ []) M) (said_framed (b ∷ []) M h)
walk k v (Send to m ∷ es) d M h = walk k v es d (sent (post k to m) M) (sent_framed (post k to m) M h)

frames_step : (hd : Header) → KeepsSteps hd AreFramed
frames_step hd = record {
  quiet = λ bs M plain h. said_framed bs M h;
  junk = λ n M fit h. said_framed (body.Sent (M.past.frames + 1) 0 n frame.Junk ∷ []) M h;
  stop = λ k d live M h. said_framed (body.Halted k ∷ []) M h;
  message = λ k d t v from m outs M h there meant may is. walk k v outs d M h;
  act = λ k d t i M is brings fresh asks free h. walk k (with_coord t (acts i d.intents t.coord).part) (acts i d.intents t.coord).outs d
      (asks_now i t.coord M) h;
  begin = λ k d t l how parent M brings fresh free gives none h.
      let a = begin_action l how parent (parent_of parent t.coord) t.coord in
      walk k (with_coord t a.part) a.outs d (given l (record { node = k; serial = is_serial how }) M) h;
  tick = λ k d t M h. walk k (with_coord t (again_all t.coord.doings t.coord).part)
      (tick_outs (record { number = k; disk = d; live = Some t }) t) d M h;
  restart = λ k d M event first h. walk k (parts_in k (d.inc + 1) d) (restart_outs hd k (d.inc + 1) d) d M h;
}

frames_keep : (hd : Header) → KeepsAll hd AreFramed
frames_keep hd = record {
  opens = λ e M fresh number h. h;
  closes = λ bodies M number lines h. h;
  steps = frames_step hd;
  first = λ st formed p there. absurd there;
}

pub runs_frame : RunsFrameMessages
runs_frame hd r = run_with hd AreFramed (frames_keep hd) r
