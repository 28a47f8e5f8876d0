mod After
