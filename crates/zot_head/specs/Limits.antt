-- How much of a message is read before it is refused: numbers of this profile.
use Rattle.std.specs.Prelude.{ℕ}
use Rattle.zot_head.specs.declared.limits.TheConstants.{CHUNK_LINE_LIMIT, HEAD_LIMIT, LINE_LIMIT, TRAILER_LIMIT}

-- the bytes of a message through the end of its head
unfoldable pub head_limit : ℕ
head_limit = HEAD_LIMIT

-- the lines between a head's first line and its empty line
unfoldable pub line_limit : ℕ
line_limit = LINE_LIMIT

-- the bytes of a chunk's line, with its CR LF
unfoldable pub chunk_line_limit : ℕ
chunk_line_limit = CHUNK_LINE_LIMIT

-- the bytes of a trailer section, with its empty line
unfoldable pub trailer_limit : ℕ
trailer_limit = TRAILER_LIMIT
