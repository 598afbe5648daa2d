use Rattle.std.proofs.Common.{◌∙◌}
use Rattle.arj_view_html.specs.Page.{told_text}
use Rattle.arj_view_html.specs.declared.page.TheConstants.{BACK, FRONT}
use Rattle.arj_view_html.proofs.Pages.{page_by}
use Rattle.arj_view_html.proofs.writing.write_html.Goals as goal

pub returns-clause-appends : goal.returns-clause-appends
returns-clause-appends c = λ whole.
    let h = c.put_page.ensures.appends whole in
    (h.0, page_by c.args.page.now.bytes FRONT.now BACK.now c.put_page.new.page.bytes c.as_slice.result.now (told_text c.args.seen.now) (c.as_slice.ensures ∙ c.in_ok-told.ensures) h.1)
