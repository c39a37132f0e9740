mod EachKind
