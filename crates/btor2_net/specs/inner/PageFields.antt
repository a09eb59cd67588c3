-- What the lines of a circuit so far hold, by their fields. Contracts of private functions alone cite it.
use Rattle.btor2_model.specs.Table.{value_in}
use Rattle.btor2_net.specs.Pages as pages
use Rattle.btor2_net.specs.declared.page.Page.{Page}

-- the lines, and the ids of sorts
abbrev pub page_of : Page → pages.Page
page_of p = record { lines = p.lines; sorts = value_in p.sorts }
