-- What a part of a body has to do with one access. It serves private functions alone.
use Rattle.std.specs.Prelude.{Bool, false, ◌&&◌, ◌||◌}
use Rattle.std.specs.List.{list_any}
use Rattle.typed_core.specs.declared.access.Access.{Access}
use Rattle.lab_lint.specs.Occurrences.{Part}
use Rattle.lab_lint.specs.Refusals.{cannot_follow, is_access, is_refused_in, occurs_in}
use Rattle.lab_lint.specs.declared.meeting.Meeting.{Meeting}

-- what a part has to do with an access: whether it occurs, whether an occurrence is one that it cannot follow, and
-- whether the part itself may refuse it
abbrev pub meeting_of : Access → Part → Meeting
meeting_of a part = record {
  occurs = occurs_in part a;
  hinders = list_any (cannot_follow a) part.all;
  is_refused = is_refused_in part a;
}

-- what a part without occurrences has to do with an access
abbrev pub none : Meeting
none = record { occurs = false; hinders = false; is_refused = false }

-- what one of two parts has to do with it
abbrev pub either : Meeting → Meeting → Meeting
either a b = record {
  occurs = a.occurs || b.occurs;
  hinders = a.hinders || b.hinders;
  is_refused = a.is_refused || b.is_refused;
}

-- what one part and then another have to do with it
abbrev pub in_order : Meeting → Meeting → Meeting
in_order a b = record {
  occurs = a.occurs || b.occurs;
  hinders = a.hinders || b.hinders;
  is_refused = (a.is_refused || b.is_refused) || (a.hinders && b.occurs);
}
