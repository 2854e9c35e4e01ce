-- Where a message's head is found to end.
use Rattle.zot_head.specs.declared.found.Found.{Found}
use Rattle.zot_head.specs.declared.found.Found.TheVariants.{More, Head, TooLong}
use Rattle.zot_head.specs.Lines.{Extent, Ends, Passes, Goes}

-- what is found of a head that goes so far
abbrev pub found_of : Extent → Found
found_of (Ends n) = Head n
found_of Passes = TooLong
found_of Goes = More
