-- A page as the code holds it: a lent area, and the next place on it.
use Rattle.bytes_out.specs.declared.Page.{Page as Lent}
use Rattle.bytes_out.specs.Page.{Page, page}

-- what is on it
abbrev pub page_of : Lent → Page
page_of p = page p.area.now p.at
