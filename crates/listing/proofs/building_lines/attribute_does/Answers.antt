-- `attribute_does` meets its contract: a line that means nothing is a bad line, any other makes its call. Assumes nothing.
use Rattle.listing.proofs.Built.{unread, line_done}
use Rattle.listing.proofs.building_lines.attribute_does.Goals as goal

pub returns-in_default : goal.returns-in_default
returns-in_default c = unread _ _ c.in_default.ensures c.requires

pub returns : goal.returns
returns c = line_done c.in-Some.ensures c.set_attribute.result c.set_attribute.ensures
