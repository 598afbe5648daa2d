-- An answer to a request that no step of a call makes.
use Rattle.std.proofs.Common.{◌≡◌, Bool, true, Option, nat_lt, refl, ◌∙◌, sym, Some, None, IfSome}
use Rattle.arj_protocol.specs.Ask.{Reply, reply_kind}
use Rattle.arj_protocol.specs.Call.{Known, Goal, At, AtBind, AtLoad, AtActivate, AtNote, AtInvoke, Moved, answered, moves}

pub other_reply : (free : Bool) (kept : Option Known) (g : Goal) (at : At) (r : Reply) → nat_lt 5 (reply_kind r) ≡ true →
    answered free kept g at r ≡ moves kept at
other_reply free kept g (AtBind avoid) (Reply.Voted r) is = refl
other_reply free kept g (AtLoad k s rest) (Reply.Voted r) is = refl
other_reply free kept g (AtActivate k st) (Reply.Voted r) is = refl
other_reply free kept g (AtNote k i) (Reply.Voted r) is = refl
other_reply free kept g (AtInvoke k i) (Reply.Voted r) is = refl
other_reply free kept g (AtBind avoid) (Reply.Prepared r) is = refl
other_reply free kept g (AtLoad k s rest) (Reply.Prepared r) is = refl
other_reply free kept g (AtActivate k st) (Reply.Prepared r) is = refl
other_reply free kept g (AtNote k i) (Reply.Prepared r) is = refl
other_reply free kept g (AtInvoke k i) (Reply.Prepared r) is = refl
other_reply free kept g (AtBind avoid) (Reply.Confirmed r) is = refl
other_reply free kept g (AtLoad k s rest) (Reply.Confirmed r) is = refl
other_reply free kept g (AtActivate k st) (Reply.Confirmed r) is = refl
other_reply free kept g (AtNote k i) (Reply.Confirmed r) is = refl
other_reply free kept g (AtInvoke k i) (Reply.Confirmed r) is = refl
other_reply free kept g at (Reply.Bound r) is = absurd (cc is)
other_reply free kept g at (Reply.Loaded r) is = absurd (cc is)
other_reply free kept g at (Reply.Activated i) is = absurd (cc is)
other_reply free kept g at (Reply.Noted r) is = absurd (cc is)
other_reply free kept g at (Reply.Invoked r) is = absurd (cc is)

pub other_in : (free : Bool) (kept : Option Known) (g : Goal) (at : At) (o : Option Reply) (m : Moved) →
    IfSome o (λ r. nat_lt 5 (reply_kind r) ≡ true) → m ≡ moves kept at
    → IfSome o (λ r. m ≡ answered free kept g at r)
other_in free kept g at None m other is = tt
other_in free kept g at (Some r) m other is = is ∙ sym (other_reply free kept g at r other)
