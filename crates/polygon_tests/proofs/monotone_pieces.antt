mod KnownPieces
